-- On a book whose frame is right, a place is found exactly when the row rule is broken.
use mathlib.Core.Path.{◌≡◌, refl, sym, ap, ◌∙◌}
use mathlib.Core.Bool.{Bool, true, false, not, ◌&&◌, ◌||◌, true≢false}
use mathlib.Core.Logic.{◌⊎◌, inl, inr}
use mathlib.Core.List.{List}
use Prim.Native.Nat.{ℕ, zero, suc, ◌+◌, ◌-◌, ◌/◌, ◌%◌, ◌≤◌, ◌<◌}
use native.Mathlib.Nat.{le_refl}
use native.Mathlib.Numerals.{add-one}
use native.Mathlib.Omega.{arith}
use lib.ListN.{length, get_or, take, drop, length-take, length-drop}
use lib.Seq.{get_or-take, get_or-drop}
use lib.Dec.{eqb, ltb, leb}
use borrow.Author.Tests.{ltb-true, ltb-false, leb-true, leb-false, eqb-true, lt-ltb, le-ltb, lt-leb, eq-eqb, not-true, not-false}
use Rattle.rules.specs.Lists.{up_to, any_of, all_of, repeated, repeats, ascends, rises}
use Rattle.rules.specs.Book.{dim, count, key, held, keys_held, place, offset, total, row_of, rows_of, row_right, relation_right, frame_right, rows_right}
use Rattle.rules.specs.Broken.{offset_bad, word_bad, index_bad, row_bad, relation_bad, rows_broken}
use Rattle.rules.proofs.Tests.{off-left, off-right, agree, cases, left, right, any_none, none_of, all-at, all-of, all-place}
use Rattle.rules.proofs.Keep.{up_to-of, up_to-is}
use Rattle.rules.proofs.Numbered.{length-rows}
use Rattle.rules.proofs.Unlike.{not-repeated}
use Rattle.rules.proofs.Needs.{key-mod}
use Rattle.rules.proofs.FrameRule.{Framed, framed, held_below, room}
use Rattle.rules.proofs.Steps.{not_so, all_are, all-rows-are, all-kept-are, rises-are, ascends-are, ascends-not}
use Rattle.rules.proofs.RowRule.{rises-at, offset-first, offset-rises, row-length, row-ascends, row-all, row-vertices, rows-unlike}

-- ---- tests joined by or
or-not : (a b : Bool) → a ≡ false → b ≡ false → (a || b) ≡ false
or-not a b p q = rw (p, q)

and-not : (a b : Bool) → b ≡ false → (a && b) ≡ false
and-not true b p = p
and-not false b p = refl

-- where the first two hold, the last does not
third : (a b c : Bool) → a ≡ true → b ≡ true → (a && b && c) ≡ false → c ≡ false
third a b c p q h = rw (p, q) at h

-- ---- a row by its places
module _ (bound : ℕ) (row : List ℕ) where
  -- a row that ascends below the bound has no bad index
  pub words-fine : ascends row ≡ true → all_of (λ j. ltb j bound) row ≡ true → (p : ℕ) → p < length row → word_bad bound row p ≡ false
  unfolding word_bad
  words-fine a b p m = or-not _ _ (lt-leb bound (get_or row p 0) (ltb-true _ _ (all-place (λ j. ltb j bound) row 0 b p m))) (after p m)
    where
      after : (p : ℕ) → p < length row → (ltb 0 p && leb (get_or row p 0) (get_or row (p - 1) 0)) ≡ false
      after zero m = refl
      after (suc p) m =
          let e : suc p - 1 ≡ p = omega arith in
          rw (lt-ltb 0 (suc p) (omega arith), e) (not_so _ (λ t. true≢false (sym a ∙ ascends-not row p m (leb-true _ _ t))))

  -- and one without a bad index does so
  module _ (g : (p : ℕ) → p < length row → word_bad bound row p ≡ false) where
    pub words-ascend : ascends row ≡ true
    unfolding word_bad
    words-ascend = ascends-are row (λ p m. up p m (g (suc p) m))
      where
        up : (p : ℕ) → suc p < length row → word_bad bound row (suc p) ≡ false → get_or row p 0 < get_or row (suc p) 0
        up p m n =
            let e : suc p - 1 ≡ p = omega arith in
            let a = off-right (leb bound (get_or row (suc p) 0)) _ n in
            leb-false _ _ (rw (lt-ltb 0 (suc p) (omega arith), e) at a)

    pub words-below : all_of (λ j. ltb j bound) row ≡ true
    unfolding word_bad
    words-below = all_are (λ j. ltb j bound) row 0 (λ p m. lt-ltb _ _ (leb-false bound (get_or row p 0) (off-left _ _ (g p m))))

pub rows-many : (ws : List ℕ) (k : ℕ) → length (rows_of ws k) ≡ count ws (k / 4)
unfolding rows_of
rows-many ws k = length-rows (row_of ws k) (count ws (k / 4))

-- ---- from right rows, no fault
module _ (ws : List ℕ) (f : Framed ws) (r : rows_right ws ≡ true) where
  module _ (k : ℕ) (h : held ws k ≡ true) where
    offset-fine : (p : ℕ) → p ≤ count ws (k / 4) → offset_bad ws k p ≡ false
    unfolding offset_bad
    offset-fine zero l = rw (eq-eqb (offset ws k 0) 0 (offset-first ws f r k h))
    offset-fine (suc p) l = or-not _ _ (le-ltb (offset ws k (suc p)) (offset ws k p) up) (sized (cases (eqb (k % 4) 0 && ltb 0 k)))
      where
        up : offset ws k p ≤ offset ws k (suc p)
        up = offset-rises ws f r k h p (suc p) (omega arith) l

        sized : ((eqb (k % 4) 0 && ltb 0 k) ≡ true) ⊎ ((eqb (k % 4) 0 && ltb 0 k) ≡ false)
            → (eqb (k % 4) 0 && ltb 0 k && not (eqb (offset ws k (suc p)) (offset ws k p + (k / 4 + 1)))) ≡ false
        sized (inl e) =
            let z : k % 4 ≡ 0 = eqb-true _ _ (left _ (ltb 0 k) e) in
            let q : 0 < k = ltb-true _ _ (right (eqb (k % 4) 0) _ e) in
            let a = row-vertices ws f r k h z q p l in
            let b = rw add-one at (row-length ws f r k h p l) in
            let s : offset ws k (suc p) ≡ offset ws k p + (k / 4 + 1) = omega arith in
            rw (e, eq-eqb _ _ s)
        sized (inr e) = rw e

    index-fine : (i : ℕ) → i < count ws (k / 4) → (p : ℕ) → p < length (row_of ws k i) → index_bad ws k i p ≡ false
    unfolding index_bad
    index-fine i l p m = or-not _ _ (words-fine (count ws (k % 4)) (row_of ws k i) (row-ascends ws f r k h i l) (row-all ws f r k h i l) p m) (unlike (cases (eqb k (key (dim ws) 0))))
      where
        unlike : (eqb k (key (dim ws) 0) ≡ true) ⊎ (eqb k (key (dim ws) 0) ≡ false) → (eqb p 0 && eqb k (key (dim ws) 0) && repeated (rows_of ws k) i) ≡ false
        unlike (inl e) =
            let q : repeats (rows_of ws k) ≡ false = ap (λ (x : ℕ). repeats (rows_of ws x)) (eqb-true k (key (dim ws) 0) e) ∙ rows-unlike ws f r in
            let n : i < length (rows_of ws k) = rw (rows-many ws k) l in
            and-not (eqb p 0 && eqb k (key (dim ws) 0)) (repeated (rows_of ws k) i) (not-repeated (rows_of ws k) q i n)
        unlike (inr e) = rw (and-not (eqb p 0) (eqb k (key (dim ws) 0)) e)

    row_fine : (i : ℕ) → i < count ws (k / 4) → row_bad ws k i ≡ false
    unfolding row_bad
    row_fine i l = any_none (index_bad ws k i) (up_to (length (row_of ws k i))) (λ p m. index-fine i l p (up_to-is p _ m))

    relation-fine : relation_bad ws k ≡ false
    unfolding relation_bad
    relation-fine =
        or-not _ _ (any_none (offset_bad ws k) (up_to (count ws (k / 4) + 1)) (λ p m. let l = up_to-is p _ m in offset-fine p (omega arith)))
        (any_none (row_bad ws k) (up_to (count ws (k / 4))) (λ i m. row_fine i (up_to-is i _ m)))

  faultless : rows_broken ws ≡ false
  unfolding rows_broken rows_right
  faultless =
      or-not _ _ (any_none (λ k. held ws k && relation_bad ws k) (up_to 16) (λ k m. relation k (cases (held ws k))))
      (any_none (λ w. not (eqb 0 w)) (drop (get_or ws 4 0) ws) (λ w m. rw (all-at (eqb 0) (right (all_of (relation_right ws) (keys_held ws)) _ r) m)))
    where
      relation : (k : ℕ) → (held ws k ≡ true) ⊎ (held ws k ≡ false) → (held ws k && relation_bad ws k) ≡ false
      relation k (inl h) = rw h (relation-fine k h)
      relation k (inr h) = rw h

-- ---- a relation held whose offsets show no fault: they rise from 0 to the total, and the rows lie between them
module _ (ws : List ℕ) (f : Framed ws) (k : ℕ) (h : held ws k ≡ true) (g : (p : ℕ) → p ≤ count ws (k / 4) → offset_bad ws k p ≡ false) where
  pub seen_first : offset ws k 0 ≡ 0
  unfolding offset_bad
  seen_first = eqb-true _ _ (not-false _ (g 0 (omega arith)))

  seen_step : (p : ℕ) → p < count ws (k / 4) → offset ws k p ≤ offset ws k (suc p)
  unfolding offset_bad
  seen_step p l = ltb-false _ _ (off-left _ _ (g (suc p) l))

  pub seen_size : eqb (k % 4) 0 ≡ true → ltb 0 k ≡ true → (p : ℕ) → p < count ws (k / 4) → offset ws k (suc p) ≡ offset ws k p + (k / 4 + 1)
  unfolding offset_bad
  seen_size x y p l = eqb-true _ _ (not-false _ (third (eqb (k % 4) 0) (ltb 0 k) _ x y (off-right (ltb (offset ws k (suc p)) (offset ws k p)) _ (g (suc p) l))))

  os : List ℕ
  os = take (count ws (k / 4) + 1) (drop (place ws k) ws)

  os-length : length os ≡ count ws (k / 4) + 1
  unfolding os
  os-length = simp (length-take, length-drop) (omega (arith, room ws f k h, f.fits))

  os-at : (p : ℕ) → p < count ws (k / 4) + 1 → get_or os p 0 ≡ offset ws k p
  unfolding os offset
  os-at p l = rw (get_or-take, get_or-drop)

  os-rise : rises os ≡ true
  os-rise = rises-are os (λ p l. let m : suc p < count ws (k / 4) + 1 = rw os-length at l in rw (os-at p (omega arith), os-at (suc p) m) (seen_step p (omega arith)))

  seen-offsets : rises (take (count ws (k / 4) + 1) (drop (place ws k) ws)) ≡ true
  seen-offsets = unfold os in os-rise

  pub seen-rises : (p q : ℕ) → p ≤ q → q ≤ count ws (k / 4) → offset ws k p ≤ offset ws k q
  seen-rises p q l m = let n = rises-at os p q os-rise l (rw os-length (omega arith)) in rw (os-at p (omega arith), os-at q (omega arith)) at n

  pub seen-total : (p : ℕ) → p ≤ count ws (k / 4) → offset ws k p ≤ total ws k
  unfolding total
  seen-total p l = seen-rises p (count ws (k / 4)) l (le_refl _)

  pub seen-length : (i : ℕ) → i < count ws (k / 4) → length (row_of ws k i) ≡ offset ws k (suc i) - offset ws k i
  unfolding row_of
  seen-length i l = rw (add-one i, length-take, length-drop) (omega (arith, seen-total (suc i) l, seen_step i l, room ws f k h, f.fits))

-- ---- from no fault, right rows
module _ (ws : List ℕ) (f : Framed ws) (b : rows_broken ws ≡ false) where
  module _ (k : ℕ) (h : held ws k ≡ true) where
    unseen : relation_bad ws k ≡ false
    unfolding rows_broken
    unseen =
        let n = none_of (λ j. held ws j && relation_bad ws j) (off-left _ _ b) (up_to-of k 16 (held_below ws k f.mask h)) in
        rw h at n

    offset-good : (p : ℕ) → p ≤ count ws (k / 4) → offset_bad ws k p ≡ false
    unfolding relation_bad
    offset-good p l = none_of (offset_bad ws k) (off-left _ _ unseen) (up_to-of p (count ws (k / 4) + 1) (omega arith))

    index-good : (i : ℕ) → i < count ws (k / 4) → (p : ℕ) → p < length (row_of ws k i) → index_bad ws k i p ≡ false
    unfolding relation_bad row_bad
    index-good i l p m =
        none_of (index_bad ws k i) (none_of (row_bad ws k) (off-right (any_of (offset_bad ws k) (up_to (count ws (k / 4) + 1))) _ unseen) (up_to-of i (count ws (k / 4)) l)) (up_to-of p (length (row_of ws k i)) m)

    size : eqb (k % 4) 0 ≡ true → ltb 0 k ≡ true → (i : ℕ) → i < count ws (k / 4) → length (row_of ws k i) ≡ k / 4 + 1
    size x y i l = omega (arith, seen-length ws f k h offset-good i l, seen_size ws f k h offset-good x y i l)

    module _ (i : ℕ) (l : i < count ws (k / 4)) where
      row_words : (p : ℕ) → p < length (row_of ws k i) → word_bad (count ws (k % 4)) (row_of ws k i) p ≡ false
      unfolding index_bad
      row_words p m = off-left _ _ (index-good i l p m)

      row_sized : (not (eqb (k % 4) 0 && ltb 0 k) || eqb (length (row_of ws k i)) (k / 4 + 1)) ≡ true
      row_sized = go (cases (eqb (k % 4) 0 && ltb 0 k))
        where
          go : ((eqb (k % 4) 0 && ltb 0 k) ≡ true) ⊎ ((eqb (k % 4) 0 && ltb 0 k) ≡ false) → (not (eqb (k % 4) 0 && ltb 0 k) || eqb (length (row_of ws k i)) (k / 4 + 1)) ≡ true
          go (inl e) = rw e (eq-eqb _ _ (size (left _ (ltb 0 k) e) (right (eqb (k % 4) 0) _ e) i l))
          go (inr e) = rw e

      row-good : row_right ws k (row_of ws k i) ≡ true
      unfolding row_right
      row-good = rw (words-ascend (count ws (k % 4)) (row_of ws k i) row_words, words-below (count ws (k % 4)) (row_of ws k i) row_words) row_sized

    -- the rows of D→0
    alone : k ≡ key (dim ws) 0 → (i : ℕ) → i < count ws (k / 4) → repeated (rows_of ws k) i ≡ false
    unfolding index_bad
    alone q i l =
        let x : eqb (k % 4) 0 ≡ true = eq-eqb _ _ (ap (λ (n : ℕ). n % 4) q ∙ key-mod (dim ws) 0 (omega arith)) in
        let y : ltb 0 k ≡ true = lt-ltb 0 k (rw q (unfold key in omega (arith, f.low))) in
        let s = size x y i l in
        let n : 0 < length (row_of ws k i) = omega arith in
        third (eqb 0 0) (eqb k (key (dim ws) 0)) (repeated (rows_of ws k) i) refl (eq-eqb k (key (dim ws) 0) q) (off-right (word_bad (count ws (k % 4)) (row_of ws k i) 0) _ (index-good i l 0 n))

    apart : k ≡ key (dim ws) 0 → repeats (rows_of ws k) ≡ false
    unfolding repeats
    apart q = any_none (repeated (rows_of ws k)) (up_to (length (rows_of ws k))) (λ i m. alone q i (rw (rows-many ws k) at (up_to-is i _ m)))

    relation-good : relation_right ws k ≡ true
    unfolding relation_right rows_of
    relation-good =
        rw (eq-eqb (offset ws k 0) 0 (seen_first ws f k h offset-good), seen-offsets ws f k h offset-good, all-rows-are (row_of ws k) (count ws (k / 4)) (row_right ws k) row-good)
        (go (cases (eqb k (key (dim ws) 0))))
      where
        go : (eqb k (key (dim ws) 0) ≡ true) ⊎ (eqb k (key (dim ws) 0) ≡ false) → (not (eqb k (key (dim ws) 0)) || not (repeats (rows_of ws k))) ≡ true
        go (inl e) = rw (e, apart (eqb-true _ _ e))
        go (inr e) = rw e

  good : rows_right ws ≡ true
  unfolding rows_right keys_held rows_broken
  good =
      rw (all-kept-are (relation_right ws) (held ws) 16 (λ k l h. relation-good k h))
      (all-of (eqb 0) (drop (get_or ws 4 0) ws) (λ w m. not-false _ (none_of (λ x. not (eqb 0 x)) (off-right (any_of (λ k. held ws k && relation_bad ws k) (up_to 16)) _ b) m)))

-- a place is found exactly when the row rule is broken
pub rows-found : (ws : List ℕ) → frame_right ws ≡ true → rows_right ws ≡ not (rows_broken ws)
rows-found ws g = agree (rows_right ws) (not (rows_broken ws)) (λ r. rw (faultless ws (framed ws g) r)) (λ n. good ws (framed ws g) (not-true _ n))
