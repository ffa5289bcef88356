-- A file whose head and length have no fault: what the tests 1 to 6 leave, and back.
use mathlib.Core.Path.{◌≡◌, refl}
use mathlib.Core.Logic.{◌⊎◌, inl, inr}
use mathlib.Core.List.{List, map}
use Prim.Native.Nat.{ℕ, zero, suc, ◌≤◌, ◌<◌}
use native.Mathlib.Decide.{dec_lt, ℕ_discrete}
use native.Mathlib.Omega.{arith}
use lib.ListN.{length}
use borrow.Author.Tests.{lt-ltb, le-ltb}
use Rattle.rules.specs.Lists.{first_at, first_repeated, sorted}
use Rattle.rules.specs.File.{file_dim, file_vertices, file_cells, file_spare, length_of, cells_in_file, out_of, twice, pad_set}
use Rattle.rules.specs.Calls.{file_number, fault_cell}
use Rattle.rules.proofs.Tests.{cases}
use Rattle.rules.proofs.FirstFault.{Passed, short, no-dimension, many-vertices, many-cells, spare-bits, wrong-length, vertex-out, vertex-twice, cell-repeated, bits-after, no-fault}
use Rattle.kinds.specs.Refusals.{answer_number}
use Rattle.dayfile.specs.Faults.{first_faults, fault_of, head_number}

-- a number from 1 to 6 is the head's
pub head_at : (f : List ℕ) (k : ℕ) → k < 7 → file_number f ≡ k → head_number f ≡ k
unfolding head_number
head_at f k l e = rw (e, lt-ltb k 7 l)

-- behind the tests 1 to 6 no number is the head's
pub head-none : (f : List ℕ) → Passed f → head_number f ≡ 0
unfolding head_number
head-none f p =
    elim (dec_lt (first_at (out_of (file_vertices f)) (cells_in_file f)) (file_cells f)) [
      | yes l ↦ rw (vertex-out f p l)
      | no m ↦
          let out : file_cells f ≤ first_at (out_of (file_vertices f)) (cells_in_file f) = omega arith in
          elim (dec_lt (first_at twice (cells_in_file f)) (file_cells f)) [
            | yes l ↦ rw (vertex-twice f p out l)
            | no m ↦
                let two : file_cells f ≤ first_at twice (cells_in_file f) = omega arith in
                elim (dec_lt (first_repeated (map sorted (cells_in_file f))) (file_cells f)) [
                  | yes l ↦ rw (cell-repeated f p out two l)
                  | no m ↦
                      let again : file_cells f ≤ first_repeated (map sorted (cells_in_file f)) = omega arith in
                      elim (cases (pad_set f)) [
                        | inl h ↦ rw (bits-after f p out two again h)
                        | inr h ↦ rw (no-fault f p out two again h)
                      ]
                ]
          ]
    ]

-- where no number is the head's, the tests 1 to 6 are passed
pub passed : (f : List ℕ) → head_number f ≡ 0 → Passed f
passed f z = record { long = long; some-dimension = some-dimension; few-vertices = few-vertices; few-cells = few-cells; no-spare = no-spare; right-length = right-length }
  where
    never : (k : ℕ) → 0 < k → k < 7 → file_number f ≡ k → ⊥
    never k l m q = omega (arith, head_at f k m q, z)

    long : 4 ≤ length f
    long = elim (dec_lt (length f) 4) [
      | yes l ↦ absurd (never 1 (omega arith) (omega arith) (short f l))
      | no m ↦ omega arith
    ]

    some-dimension : file_dim f ≡ 0 → ⊥
    some-dimension q = never 2 (omega arith) (omega arith) (no-dimension f long q)

    few-vertices : file_vertices f ≤ 8192
    few-vertices = elim (dec_lt 8192 (file_vertices f)) [
      | yes l ↦ absurd (never 3 (omega arith) (omega arith) (many-vertices f long some-dimension l))
      | no m ↦ omega arith
    ]

    few-cells : file_cells f ≤ 4096
    few-cells = elim (dec_lt 4096 (file_cells f)) [
      | yes l ↦ absurd (never 4 (omega arith) (omega arith) (many-cells f long some-dimension few-vertices l))
      | no m ↦ omega arith
    ]

    no-spare : file_spare f ≤ 0
    no-spare = elim (dec_lt 0 (file_spare f)) [
      | yes l ↦ absurd (never 5 (omega arith) (omega arith) (spare-bits f long some-dimension few-vertices few-cells l))
      | no m ↦ omega arith
    ]

    right-length : length f ≡ length_of (file_dim f) (file_cells f)
    right-length = elim (ℕ_discrete (length f) (length_of (file_dim f) (file_cells f))) [
      | yes q ↦ q
      | no m ↦ absurd (never 6 (omega arith) (omega arith) (wrong-length f long some-dimension few-vertices few-cells no-spare m))
    ]

-- ---- the fault of such a number
low_told : (n c : ℕ) → n < 7 → (answer_number (fault_of n 0) ≡ n) × (fault_of n 0 ≡ fault_of n c)
unfolding fault_of first_faults
low_told zero c l = (refl, refl)
low_told (suc zero) c l = (refl, refl)
low_told (suc (suc zero)) c l = (refl, refl)
low_told (suc (suc (suc zero))) c l = (refl, refl)
low_told (suc (suc (suc (suc zero)))) c l = (refl, refl)
low_told (suc (suc (suc (suc (suc zero))))) c l = (refl, refl)
low_told (suc (suc (suc (suc (suc (suc zero)))))) c l = (refl, refl)
low_told (suc (suc (suc (suc (suc (suc (suc n))))))) c l = absurd (omega arith)

module _ (f : List ℕ) where
  head-cases : ((file_number f < 7) × (head_number f ≡ file_number f)) ⊎ (head_number f ≡ 0)
  unfolding head_number
  head-cases = elim (dec_lt (file_number f) 7) [
    | yes l ↦ inl (l, rw (lt-ltb (file_number f) 7 l))
    | no m ↦ inr (rw (le-ltb (file_number f) 7 (omega arith)))
  ]

  -- it has the head's number
  pub head-back : answer_number (fault_of (head_number f) 0) ≡ head_number f
  head-back = elim head-cases [
    | inl p ↦ rw p.1 (low_told (file_number f) 0 p.0).0
    | inr z ↦ rw z (low_told 0 0 (omega arith)).0
  ]

  -- where there is one, it is the file's first
  pub head_first : (head_number f ≡ 0 → ⊥) → fault_of (head_number f) 0 ≡ fault_of (file_number f) (fault_cell f)
  head_first q = elim head-cases [
    | inl p ↦ rw p.1 (low_told (file_number f) (fault_cell f) p.0).1
    | inr z ↦ absurd (q z)
  ]
