-- The bits after the last vertex, where the file's length is right: at most seven, so one field tells whether one of them is set.
use mathlib.Core.Path.{◌≡◌, refl, ◌∙◌}
use mathlib.Core.Logic.{◌⊎◌, inl, inr}
use mathlib.Core.Bool.{true, false, not}
use mathlib.Core.List.{List}
use Prim.Native.Nat.{ℕ, zero, suc, ◌+◌, ◌-◌, ◌*◌, ◌<◌}
use native.Mathlib.Decide.{dec_lt}
use native.Mathlib.Omega.{arith}
use lib.ListN.{length}
use lib.Dec.{eqb}
use borrow.Author.Tests.{eqb-true, eqb-false, eq-eqb, ne_eqb}
use Rattle.rules.specs.Lists.{up_to, any_of}
use Rattle.rules.specs.File.{bit_at, field, file_dim, file_cells, bits_of, length_of, pad_set}
use Rattle.rules.proofs.Tests.{any-is, none_of, cases}
use Rattle.rules.proofs.Keep.{up_to-of, up_to-is}
use Rattle.rules.proofs.BitsWritten.{bit_past}

-- a field is 0 exactly when all its bits are
pub field-clear : (f : List ℕ) (i w : ℕ) → ((j : ℕ) → j < w → bit_at f (i + j) ≡ 0) → field f i w ≡ 0
unfolding field
field-clear f i zero h = refl
field-clear f i (suc w) h = omega (arith, field-clear f i w (λ j l. h j (omega arith)), h w (omega arith))

pub clear-field : (f : List ℕ) (i w : ℕ) → field f i w ≡ 0 → (j : ℕ) → j < w → bit_at f (i + j) ≡ 0
unfolding field
clear-field f i zero h j l = absurd (omega arith)
clear-field f i (suc w) h j l =
    elim (dec_lt j w) [
      | yes k ↦ clear-field f i w (omega arith) j k
      | no k ↦ let e : j ≡ w = omega arith in rw e (omega arith)
    ]

pub bit_below : (f : List ℕ) (i : ℕ) → bit_at f i < 2
unfolding bit_at
bit_below f i = omega arith

-- some bit of a field is set exactly when it is not 0
pub some-bit : (f : List ℕ) (i w : ℕ) → any_of (λ k. eqb (bit_at f (i + k)) 1) (up_to w) ≡ not (eqb (field f i w) 0)
some-bit f i w = go (cases (any_of (λ k. eqb (bit_at f (i + k)) 1) (up_to w)))
  where
    go : (any_of (λ k. eqb (bit_at f (i + k)) 1) (up_to w) ≡ true) ⊎ (any_of (λ k. eqb (bit_at f (i + k)) 1) (up_to w) ≡ false)
        → any_of (λ k. eqb (bit_at f (i + k)) 1) (up_to w) ≡ not (eqb (field f i w) 0)
    go (inl h) =
        let (k, m, e) = any-is (λ k. eqb (bit_at f (i + k)) 1) (up_to w) h in
        let q = eqb-true (bit_at f (i + k)) 1 e in
        let n : field f i w ≡ 0 → ⊥ = λ z. omega (arith, clear-field f i w z k (up_to-is k w m)) in
        rw (h, ne_eqb (field f i w) 0 n)
    go (inr h) =
        let z : field f i w ≡ 0 = field-clear f i w (λ j l. let n = eqb-false (bit_at f (i + j)) 1 (none_of (λ k. eqb (bit_at f (i + k)) 1) h (up_to-of j w l)) in omega (arith, bit_below f (i + j))) in
        rw (h, eq-eqb (field f i w) 0 z)

module _ (f : List ℕ) (l : length f ≡ length_of (file_dim f) (file_cells f)) where
  abbrev last : ℕ
  last = bits_of (file_dim f) (file_cells f)

  few : 8 * length f - last < 8
  unfolding bits_of
  few = rw l (unfold length_of in omega arith)

  pad-clear : pad_set f ≡ false → (j : ℕ) → j < 7 → bit_at f (last + j) ≡ 0
  unfolding pad_set
  pad-clear h j k =
      elim (dec_lt j (8 * length f - last)) [
        | yes m ↦ let n : bit_at f (last + j) ≡ 1 → ⊥ = eqb-false (bit_at f (last + j)) 1 (none_of (λ k. eqb (bit_at f (last + k)) 1) h (up_to-of j (8 * length f - last) m)) in let b = bit_below f (last + j) in omega arith
        | no m ↦ bit_past f (last + j) (omega arith)
      ]

  pad-some : pad_set f ≡ true → field f last 7 ≡ 0 → ⊥
  unfolding pad_set
  pad-some h z =
      let (k, i, e) = any-is (λ k. eqb (bit_at f (last + k)) 1) (up_to (8 * length f - last)) h in
      let m = up_to-is k (8 * length f - last) i in
      let b = clear-field f last 7 z k (omega (arith, few)) in
      let q = eqb-true (bit_at f (last + k)) 1 e in
      omega arith

  pub pad-field : pad_set f ≡ not (eqb (field f last 7) 0)
  pad-field = go (cases (pad_set f))
    where
      go : (pad_set f ≡ true) ⊎ (pad_set f ≡ false) → pad_set f ≡ not (eqb (field f last 7) 0)
      go (inl h) = h ∙ rw (ne_eqb (field f last 7) 0 (pad-some h))
      go (inr h) = h ∙ rw (eq-eqb (field f last 7) 0 (field-clear f last 7 (pad-clear h)))
