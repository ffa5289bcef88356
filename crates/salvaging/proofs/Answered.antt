-- The answer test by test: the number that each leaves, and what a refusal and an accepted call leave of the lent places.
use mathlib.Core.Path.{◌≡◌, refl, sym, ◌∙◌}
use mathlib.Core.Bool.{Bool, true, false, cond, not}
use mathlib.Core.List.{List, [], ◌∷◌, ◌++◌, map}
use Prim.Native.Nat.{ℕ, ◌*◌, ◌≤◌, ◌<◌}
use native.Mathlib.Decide.{dec_lt}
use native.Mathlib.Omega.{arith}
use lib.ListN.{length, drop}
use lib.Dec.{eqb, ltb}
use borrow.Author.Tests.{le-ltb, ne_eqb}
use Rattle.rules.specs.Lists.{any_of, repeats, sorted}
use Rattle.rules.specs.File.{file_dim, file_vertices, file_cells, file_spare, length_of, cells_in_file, out_of, twice, pad_set, head_dim, head_cells, head_length}
use Rattle.rules.specs.Calls.{first_broken, file_rules, file_number, at_front}
use Rattle.rules.specs.Salvage.{Headed, kept, dropped_pairs, dropped_count, saved_head, saved, saved_length, spare_was, pad_was, length_was, salvage_rules, salvage_number, salvage_given, salvage_bytes, salvage_list}
use Rattle.rules.proofs.Fields.{dim-below}
use Rattle.rules.proofs.FirstFault.{short, no-dimension, many-vertices, many-cells}
use Rattle.rules.proofs.Salvaged.{kept-few, saved-length}
use Rattle.dayfile.specs.Faults.{head_number}
use Rattle.dayfile.proofs.HeadFaults.{head_at}
use Rattle.salvaging.specs.declared.answers.Saved.{Saved}
use Rattle.std.specs.Prelude.{Result, Ok}
use Rattle.kinds.specs.declared.refusals.Refusal.{Refusal}
use Rattle.kinds.specs.Refusals.{answer_number, given}
use Rattle.salvaging.specs.Answers.{saved_given}

-- ---- the number
-- behind the head's four no number is one of them
rest-other : (spare long out twice again pad : Bool) (k : ℕ) → 0 < k → k < 5 → cond spare 5 (cond long 6 (cond out 7 (cond twice 8 (cond again 23 (cond pad 9 0))))) ≡ k → ⊥
rest-other true long out twice again pad k l m e = omega arith
rest-other false true out twice again pad k l m e = omega arith
rest-other false false true twice again pad k l m e = omega arith
rest-other false false false true again pad k l m e = omega arith
rest-other false false false false true pad k l m e = omega arith
rest-other false false false false false true k l m e = omega arith
rest-other false false false false false false k l m e = omega arith

module _ (f bytes list : List ℕ) where
  -- the head's four refusals are Load's
  pub head-refused : (k : ℕ) → 0 < k → k < 5 → file_number f ≡ k → salvage_number f bytes list ≡ k
  unfolding file_number file_rules salvage_number salvage_rules first_broken
  head-refused k l m e = go (ltb (length f) 4) (eqb (file_dim f) 0) (ltb 8192 (file_vertices f)) (ltb 4096 (file_cells f)) _ _ (rest-other (ltb 0 (file_spare f)) (not (eqb (length f) (length_of (file_dim f) (file_cells f)))) (any_of (out_of (file_vertices f)) (cells_in_file f)) (any_of twice (cells_in_file f)) (repeats (map sorted (cells_in_file f))) (pad_set f) k l m) e
    where
      go : (a b c d : Bool) (x y : ℕ) → (x ≡ k → ⊥) → cond a 1 (cond b 2 (cond c 3 (cond d 4 x))) ≡ k → cond a 1 (cond b 2 (cond c 3 (cond d 4 y))) ≡ k
      go true b c d x y n e = e
      go false true c d x y n e = e
      go false false true d x y n e = e
      go false false false true x y n e = e
      go false false false false x y n e = absurd (n e)

  -- behind them come 18 and 21
  pub past_head : Headed f → salvage_number f bytes list ≡ cond (ltb (length bytes) (saved_length f)) 18 (cond (ltb (length list) (2 * file_cells f)) 21 0)
  unfolding salvage_number salvage_rules first_broken
  past_head a = rw (le-ltb (length f) 4 a.long, ne_eqb (file_dim f) 0 (λ z. omega (arith, a.low)), le-ltb 8192 (file_vertices f) a.vertices, le-ltb 4096 (file_cells f) a.cells)

  -- ---- what a call leaves
  -- a refusal leaves the lent places
  pub refused : (r : Result Saved Refusal) (n : ℕ) → answer_number r ≡ n → given [] saved_given r ≡ [] → (n ≡ 0 → ⊥) → salvage_number f bytes list ≡ n
      → (answer_number r ≡ salvage_number f bytes list) × ((given [] saved_given r ≡ salvage_given f bytes list) × ((bytes ≡ salvage_bytes f bytes list) × (list ≡ salvage_list f bytes list)))
  unfolding salvage_given salvage_bytes salvage_list at_front
  refused r n e g z h = rw (h, ne_eqb n 0 z) (e, (g, (refl, refl)))

  -- an accepted call writes both
  pub accepted : Headed f → saved_length f ≤ length bytes → 2 * file_cells f ≤ length list → (s : Saved) (out : List ℕ) (dropped : List ℕ)
      → saved_given s ≡ saved_length f ∷ dropped_count f ∷ cond (spare_was f) 1 0 ∷ cond (pad_was f) 1 0 ∷ cond (length_was f) 1 0 ∷ []
      → out ≡ saved f ++ drop (saved_length f) bytes → dropped ≡ dropped_pairs f ++ drop (length (dropped_pairs f)) list
      → (answer_number (Ok s) ≡ salvage_number f bytes list) × ((given [] saved_given (Ok s) ≡ salvage_given f bytes list) × ((out ≡ salvage_bytes f bytes list) × (dropped ≡ salvage_list f bytes list)))
  unfolding salvage_given salvage_bytes salvage_list at_front saved_length
  accepted a l m s out dropped g o d =
      let n : salvage_number f bytes list ≡ 0 = past_head a ∙ rw (le-ltb (length bytes) (saved_length f) l, le-ltb (length list) (2 * file_cells f) m) in
      rw n (refl, (g, (o, d)))

-- ---- the head
module _ (f : List ℕ) where
  -- the number of the head's fault is the file's
  pub head-own : (k : ℕ) → 0 < k → head_number f ≡ k → file_number f ≡ k
  unfolding head_number
  head-own k l e = go (ltb (file_number f) 7) e
    where
      go : (b : Bool) → cond b (file_number f) 0 ≡ k → file_number f ≡ k
      go true h = h
      go false h = absurd (omega arith)

  -- where it is none of the first four, refusals 1 to 4 let the file pass
  pub headed : ((k : ℕ) → 0 < k → k < 5 → head_number f ≡ k → ⊥) → Headed f
  headed n = record { long = long; low = low; vertices = vertices; cells = cells }
    where
      never : (k : ℕ) → 0 < k → k < 5 → file_number f ≡ k → ⊥
      never k l m e = n k l m (head_at f k (omega arith) e)

      long : 4 ≤ length f
      long = elim (dec_lt (length f) 4) [
        | yes l ↦ absurd (never 1 (omega arith) (omega arith) (short f l))
        | no m ↦ omega arith
      ]

      low : 0 < file_dim f
      low = elim (dec_lt 0 (file_dim f)) [
        | yes l ↦ l
        | no m ↦ absurd (never 2 (omega arith) (omega arith) (no-dimension f long (omega arith)))
      ]

      some : file_dim f ≡ 0 → ⊥
      some z = omega (arith, low)

      vertices : file_vertices f ≤ 8192
      vertices = elim (dec_lt 8192 (file_vertices f)) [
        | yes l ↦ absurd (never 3 (omega arith) (omega arith) (many-vertices f long some l))
        | no m ↦ omega arith
      ]

      cells : file_cells f ≤ 4096
      cells = elim (dec_lt 4096 (file_cells f)) [
        | yes l ↦ absurd (never 4 (omega arith) (omega arith) (many-cells f long some vertices l))
        | no m ↦ omega arith
      ]

-- ---- the corrected head
module _ (f : List ℕ) (a : Headed f) where
  few : length (kept f) ≤ 4096
  few = omega (arith, kept-few f, a.cells)

  pub saved-head-length : head_length (saved_head f) ≡ saved_length f
  saved-head-length = unfold head_length saved_length in rw (dims, cells) (sym (saved-length f a))
    where
      dims : head_dim (saved_head f) ≡ file_dim f
      dims = unfold head_dim saved_head in omega (arith, few, dim-below f, a.vertices)

      cells : head_cells (saved_head f) ≡ length (kept f)
      cells = unfold head_cells saved_head in omega (arith, few, dim-below f, a.vertices)
