-- A relation where it stands: its offsets rise up to the last, its rows are parts of the words, and words that begin alike have the same rows.
use mathlib.Core.Path.{◌≡◌, ap, ◌∙◌}
use mathlib.Core.Bool.{Bool, true}
use mathlib.Core.Logic.{inl, inr}
use mathlib.Core.List.{List, [], ◌∷◌, ◌++◌}
use Prim.Native.Nat.{ℕ, zero, suc, ◌+◌, ◌-◌, ◌≤◌, ◌<◌}
use native.Mathlib.Nat.{eq-or-lt_of_le, le_refl}
use native.Mathlib.Numerals.{add-one}
use native.Mathlib.Omega.{arith}
use lib.ListN.{length, get_or, take, drop, length-drop}
use lib.Seq.{slice, drop-cons, take-suc, get_or-drop, get_or-take, length-take-le}
use Rattle.rules.specs.Lists.{all_of}
use Rattle.rules.proofs.Tests.{all-place}
use Rattle.rules.proofs.Slices.{slice-take, slice-split, get_d_front, part-front}
use Rattle.relations.specs.Words.{part, start_of, row_at, Rows}

-- ---- parts
pub part_none : (ws : List ℕ) (at end : ℕ) → end ≤ at → part ws at (end - at) ≡ []
unfolding part
part_none ws at end h = let e : end - at ≡ 0 = omega arith in rw e

pub part-cons : (ws : List ℕ) (at end : ℕ) → at < end → end ≤ length ws → part ws at (end - at) ≡ get_or ws at 0 ∷ part ws (at + 1) (end - (at + 1))
unfolding part
part-cons ws at end h k =
    let l : at < length ws = omega arith in
    let e : end - at ≡ suc (end - (at + 1)) = omega arith in
    rw (e, drop-cons ws at 0 l, add-one at)

pub part-last : (ws : List ℕ) (a n : ℕ) → a + suc n ≤ length ws → part ws a (suc n) ≡ part ws a n ++ (get_or ws (a + n) 0 ∷ [])
unfolding part
part-last ws a n h = take-suc (drop a ws) n 0 (omega (arith, length-drop a ws)) ∙ rw (get_or-drop a ws n 0)

pub part_length : (ws : List ℕ) (a n : ℕ) → a + n ≤ length ws → length (part ws a n) ≡ n
unfolding part
part_length ws a n h = length-take-le n (drop a ws) (omega (arith, length-drop a ws))

pub part_at : (ws : List ℕ) (a n k : ℕ) → k < n → get_or (part ws a n) k 0 ≡ get_or ws (a + k) 0
unfolding part
part_at ws a n k h = get_or-take n (drop a ws) k 0 h ∙ get_or-drop a ws k 0

-- each member of a part passes a test that all pass
pub part-all : (p : ℕ → Bool) (ws : List ℕ) (a n : ℕ) → a + n ≤ length ws → all_of p (part ws a n) ≡ true → (k : ℕ) → k < n → p (get_or ws (a + k) 0) ≡ true
part-all p ws a n h t k l = rw (part_at ws a n k l) at (all-place p (part ws a n) 0 t k (omega (arith, part_length ws a n h)))

-- ---- one relation
module _ (ws : List ℕ) (at n : ℕ) where
  -- the row between two starts
  pub start-row : (i : ℕ) → part ws (start_of ws at n i) (start_of ws at n (i + 1) - start_of ws at n i) ≡ row_at ws at n i
  unfolding start_of row_at
  start-row i =
      let e : at + n + 1 + get_or ws (at + (i + 1)) 0 - (at + n + 1 + get_or ws (at + i) 0) ≡ get_or ws (at + (i + 1)) 0 - get_or ws (at + i) 0 = omega arith in
      rw e

  pub row-slice : (i : ℕ) → slice (start_of ws at n i) (start_of ws at n (i + 1)) ws ≡ row_at ws at n i
  row-slice i = slice-take (start_of ws at n i) (start_of ws at n (i + 1)) ws ∙ (unfold part in start-row i)

module _ {ws : List ℕ} {at n m : ℕ} (r : Rows ws at n m) where
  pub offsets-rise : (i k : ℕ) → i ≤ k → k ≤ n → get_or ws (at + i) 0 ≤ get_or ws (at + k) 0
  offsets-rise i zero h l = let e : i ≡ 0 = omega arith in rw e (le_refl _)
  offsets-rise i (suc k) h l =
      elim (eq-or-lt_of_le h) [
        | inl e ↦ rw e (le_refl _)
        | inr s ↦ omega (arith, offsets-rise i k (omega arith) (omega arith), rw add-one at (r.rise k (omega arith)))
      ]

  pub rows_fit : (i : ℕ) → i ≤ n → at + n + 1 + get_or ws (at + i) 0 ≤ m
  rows_fit i h = omega (arith, offsets-rise i n h (le_refl _), r.fit)

  pub start-fit : (i : ℕ) → i ≤ n → start_of ws at n i ≤ m
  unfolding start_of
  start-fit i h = rows_fit i h

  pub start-rises : (i k : ℕ) → i ≤ k → k ≤ n → start_of ws at n i ≤ start_of ws at n k
  unfolding start_of
  start-rises i k h l = omega (arith, offsets-rise i k h l)

  -- row i stands between its start and that of the next, within the m words
  pub row-bounds : (i : ℕ) → i < n → (start_of ws at n i ≤ start_of ws at n (i + 1)) × (start_of ws at n (i + 1) ≤ m)
  row-bounds i h = (start-rises i (i + 1) (omega arith) (omega arith), start-fit (i + 1) (omega arith))

  pub rows-within : (k : ℕ) → m ≤ k → Rows ws at n k
  rows-within k l = record { first = r.first; rise = r.rise; fit = omega (arith, r.fit) }

  -- what is left from row j on: row j, and what is left from the next on
  pub rest-split : (j : ℕ) → j < n
      → slice (start_of ws at n j) (start_of ws at n n) ws ≡ row_at ws at n j ++ slice (start_of ws at n (j + 1)) (start_of ws at n n) ws
  rest-split j h =
      slice-split (start_of ws at n j) (start_of ws at n (j + 1)) (start_of ws at n n) ws
      (start-rises j (j + 1) (omega arith) (omega arith))
      (start-rises (j + 1) n (omega arith) (omega arith))
      ∙ ap (λ (l : List ℕ). l ++ slice (start_of ws at n (j + 1)) (start_of ws at n n) ws) (row-slice ws at n j)

-- ---- words that begin alike
module _ (vs ws : List ℕ) (m : ℕ) (e : take m vs ≡ take m ws) {at n : ℕ} (r : Rows ws at n m) where
  pub offset-front : (i : ℕ) → i ≤ n → get_or vs (at + i) 0 ≡ get_or ws (at + i) 0
  offset-front i h = get_d_front vs ws m e (at + i) (omega (arith, r.fit))

  pub start-front : (i : ℕ) → i ≤ n → start_of vs at n i ≡ start_of ws at n i
  unfolding start_of
  start-front i h = rw (offset-front i h)

  pub rows-front : (k : ℕ) → m ≤ k → Rows vs at n k
  rows-front k l = record {
    first = get_d_front vs ws m e at (omega (arith, r.fit)) ∙ r.first;
    rise = λ i h. rw (offset-front i (omega arith), offset-front (i + 1) (omega arith)) (r.rise i h);
    fit = rw (offset-front n (omega arith)) (omega (arith, r.fit));
  }

  pub row_at-front : (i : ℕ) → i < n → row_at vs at n i ≡ row_at ws at n i
  unfolding row_at part
  row_at-front i h =
      rw (offset-front i (omega arith), offset-front (i + 1) (omega arith))
      (part-front vs ws m e (at + n + 1 + get_or ws (at + i) 0) (get_or ws (at + (i + 1)) 0 - get_or ws (at + i) 0)
      (omega (arith, rows_fit r (i + 1) (omega arith), r.rise i h)))
