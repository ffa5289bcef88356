-- A relation gone through once: an offset as a step from the one before it, a row by its places.
use mathlib.Core.Path.{◌≡◌, refl, sym, ◌∙◌}
use mathlib.Core.Bool.{Bool, true, false, cond, not, ◌&&◌, ◌||◌, false≢true}
use mathlib.Core.Logic.{◌⊎◌, inl, inr}
use mathlib.Core.List.{List}
use Prim.Native.Nat.{ℕ, suc, ◌+◌, ◌-◌, ◌/◌, ◌%◌, ◌≤◌, ◌<◌}
use native.Mathlib.Numerals.{add-one}
use native.Mathlib.Omega.{arith}
use lib.ListN.{length, get_or, length-take, length-drop}
use lib.Dec.{eqb, ltb, leb}
use borrow.Author.Tests.{ltb-false, lt-ltb, lt-leb, le-leb}
use Rattle.rules.specs.Lists.{up_to, all_of, ascends, first_at}
use Rattle.rules.specs.Book.{place, offset, row_of}
use Rattle.rules.specs.Broken.{word_bad, offset_bad}
use Rattle.rules.proofs.Tests.{cases, and-of, off-left}
use Rattle.rules.proofs.Compared.{lt-or-le}
use Rattle.rules.proofs.Searched.{least-before}
use Rattle.rules.proofs.BrokenFound.{words-ascend, words-below}
use Rattle.rows.specs.Seen.{size_of, step_bad}

-- ---- offsets
pub offset-first : (ws : List ℕ) (k : ℕ) → offset_bad ws k 0 ≡ not (eqb (offset ws k 0) 0)
unfolding offset_bad
offset-first ws k = refl

pub offset_step : (ws : List ℕ) (k p : ℕ) → offset_bad ws k (suc p) ≡ step_bad (offset ws k p) (offset ws k (suc p)) (size_of k)
unfolding offset_bad step_bad size_of
offset_step ws k p = go (cases (eqb (k % 4) 0 && ltb 0 k))
  where
    a : ℕ
    a = offset ws k p

    b : ℕ
    b = offset ws k (suc p)

    go : ((eqb (k % 4) 0 && ltb 0 k) ≡ true) ⊎ ((eqb (k % 4) 0 && ltb 0 k) ≡ false)
        → (ltb b a || (eqb (k % 4) 0 && ltb 0 k && not (eqb b (a + (k / 4 + 1))))) ≡ (ltb b a || (ltb 0 (cond (eqb (k % 4) 0 && ltb 0 k) (k / 4 + 1) 0) && not (eqb b (a + cond (eqb (k % 4) 0 && ltb 0 k) (k / 4 + 1) 0))))
    go (inl e) = rw (e, lt-ltb 0 (k / 4 + 1) (omega arith))
    go (inr e) = rw e

-- a step that is not bad does not fall
pub step-up : (a b size : ℕ) → step_bad a b size ≡ false → a ≤ b
unfolding step_bad
step-up a b size e = ltb-false b a (off-left _ _ e)

-- an offset as code reads it
pub offset_read : (ws : List ℕ) (k at : ℕ) → at ≡ place ws k → (i x : ℕ) → x ≡ get_or ws (at + i) 0 → x ≡ offset ws k i
unfolding offset
offset_read ws k at e i x h = h ∙ rw e

-- and the step from one to the next
pub step-read : (ws : List ℕ) (k p a b size : ℕ) (bad : Bool) → a ≡ offset ws k p → b ≡ offset ws k (suc p) → size ≡ size_of k → bad ≡ step_bad a b size
    → offset_bad ws k (p + 1) ≡ bad
step-read ws k p a b size bad x y z e = rw (add-one p) (offset_step ws k p ∙ sym (e ∙ rw (x, y, z)))

-- a row is no longer than the book
pub row-short : (ws : List ℕ) (k i : ℕ) → length (row_of ws k i) ≤ length ws
unfolding row_of
row-short ws k i = simp (length-take, length-drop) (omega arith)

-- ---- the indices of a row
module _ (row : List ℕ) (bound : ℕ) where
  -- at one place
  pub bad-large : (p : ℕ) → bound ≤ get_or row p 0 → word_bad bound row p ≡ true
  unfolding word_bad
  bad-large p h = rw (le-leb bound (get_or row p 0) h)

  pub bad-first : (p : ℕ) → p ≡ 0 → get_or row p 0 < bound → word_bad bound row p ≡ false
  unfolding word_bad
  bad-first p e h = rw (lt-leb bound (get_or row p 0) h, e)

  pub bad-later : (p : ℕ) → 0 < p → get_or row p 0 < bound → word_bad bound row p ≡ leb (get_or row p 0) (get_or row (p - 1) 0)
  unfolding word_bad
  bad-later p l h = rw (lt-leb bound (get_or row p 0) h, lt-ltb 0 p l)

  -- a row that does not ascend below the bound has a bad one
  pub some-bad : (ascends row && all_of (λ j. ltb j bound) row) ≡ false → first_at (word_bad bound row) (up_to (length row)) < length row
  some-bad e = elim (lt-or-le (first_at (word_bad bound row) (up_to (length row))) (length row)) [
    | inl m ↦ m
    | inr m ↦
        let g : (p : ℕ) → p < length row → word_bad bound row p ≡ false = λ p l. least-before (word_bad bound row) (length row) p (omega arith) in
        absurd (false≢true (sym e ∙ and-of _ _ (words-ascend bound row g) (words-below bound row g)))
  ]
