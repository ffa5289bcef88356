-- A search in a row: where it stops, what it reads, and that yes means membership in a row that ascends.
use mathlib.Core.Path.{◌≡◌, refl, sym, ap, ◌∙◌}
use mathlib.Core.Bool.{Bool, true, false, ◌||◌, false≢true}
use mathlib.Core.Logic.{◌⊎◌, inl, inr}
use mathlib.Core.List.{List, [], ◌∷◌}
use Prim.Native.Nat.{ℕ, ◌+◌, ◌/◌, ◌≤◌, ◌<◌}
use native.Mathlib.Nat.{add-zero, eq-or-lt_of_le}
use native.Mathlib.Omega.{arith}
use lib.ListN.{length, get_or}
use lib.Seq.{drop-cons, drop-length}
use lib.Dec.{eqb, leb}
use borrow.Author.Tests.{eqb-true, eq-eqb, leb-true, leb-false, le-leb, lt-leb}
use Rattle.rules.specs.Lists.{any_of, has, ascends}
use Rattle.rules.specs.Book.{count, key, row_of, frame_right, rows_right}
use Rattle.rules.specs.Calls.{leading, following, found_in, read_in, find_number, find_found}
use Rattle.rules.proofs.Tests.{agree, get_or-in, has_of, has-is}
use Rattle.rules.proofs.Ascending.{ascends-two}
use Rattle.rules.proofs.Compared.{lt-or-le}
use Rattle.rules.proofs.Searched.{place_in, first_passes, first-before, first-most, first-is}
use Rattle.rules.proofs.Needs.{key-div}
use Rattle.rules.proofs.FrameRule.{framed}
use Rattle.rules.proofs.RowRule.{row-ascends}
use Rattle.rules.proofs.Accepted.{rowed, finds, find-accepted}

module _ (j : ℕ) (r : List ℕ) where
  -- ---- where the search stops
  pub leading-most : leading j r ≤ length r
  unfolding leading
  leading-most = first-most (leb j) 0 r

  pub leading-below : (p : ℕ) → p < leading j r → get_or r p 0 < j
  unfolding leading
  leading-below p l = leb-false j (get_or r p 0) (first-before (leb j) 0 r p l)

  pub leading-stops : leading j r < length r → j ≤ get_or r (leading j r) 0
  unfolding leading
  leading-stops l = leb-true j _ (first_passes (leb j) 0 r l)

  -- it is p, where the indices before are below j, and index p is not or the row ends there
  pub leading-is : (p : ℕ) → p ≤ length r → ((q : ℕ) → q < p → get_or r q 0 < j) → (p < length r → j ≤ get_or r p 0) → leading j r ≡ p
  unfolding leading
  leading-is p l b s = first-is (leb j) 0 r p l (λ q m. lt-leb j (get_or r q 0) (b q m)) (λ m. le-leb j (get_or r p 0) (s m))

  -- ---- what it answers
  next-is : leading j r < length r → following j r ≡ get_or r (leading j r) 0 ∷ []
  unfolding following
  next-is l = rw (drop-cons r (leading j r) 0 l)

  next-none : leading j r ≡ length r → following j r ≡ []
  unfolding following
  next-none e = rw (e, drop-length r)

  pub found-next : leading j r < length r → found_in j r ≡ eqb j (get_or r (leading j r) 0)
  unfolding found_in
  found-next l = rw (next-is l) (unfold has any_of in last (eqb j (get_or r (leading j r) 0)))
    where
      last : (b : Bool) → (b || false) ≡ b
      last true = refl
      last false = refl

  pub read_next : leading j r < length r → read_in j r ≡ leading j r + 1
  unfolding read_in
  read_next l = rw (next-is l)

  pub found_none : leading j r ≡ length r → found_in j r ≡ false
  unfolding found_in has any_of
  found_none e = rw (next-none e)

  pub read_none : leading j r ≡ length r → read_in j r ≡ length r
  unfolding read_in
  read_none e = rw (next-none e, e) (add-zero (length r))

  -- no more is read than the row has
  pub read-most : read_in j r ≤ length r
  read-most = elim (eq-or-lt_of_le leading-most) [ inl e ↦ omega (arith, read_none e) | inr l ↦ omega (arith, read_next l) ]

  -- ---- in a row that ascends, yes equals reading the whole row
  pub found-has : ascends r ≡ true → found_in j r ≡ has j r
  found-has a = agree (found_in j r) (has j r) there back
    where
      there : found_in j r ≡ true → has j r ≡ true
      there t = go (eq-or-lt_of_le leading-most)
        where
          go : (leading j r ≡ length r) ⊎ (leading j r < length r) → has j r ≡ true
          go (inl e) = absurd (false≢true (sym (found_none e) ∙ t))
          go (inr l) =
              let q : j ≡ get_or r (leading j r) 0 = eqb-true _ _ (sym (found-next l) ∙ t) in
              ap (λ (x : ℕ). has x r) q ∙ has_of (get_or-in r (leading j r) 0 l)

      back : has j r ≡ true → found_in j r ≡ true
      back t =
          let (p, l, q) = place_in r 0 (has-is j r t) in
          go p l q (lt-or-le p (leading j r))
        where
          go : (p : ℕ) → p < length r → j ≡ get_or r p 0 → (p < leading j r) ⊎ (leading j r ≤ p) → found_in j r ≡ true
          go p l q (inl m) = absurd (omega (arith, leading-below p m))
          go p l q (inr m) = elim (eq-or-lt_of_le m) [
            | inl e ↦ found-next (omega arith) ∙ rw e (eq-eqb j (get_or r p 0) q)
            | inr n ↦ absurd (omega (arith, ascends-two r (leading j r) p a n l, leading-stops (omega arith)))
          ]

-- no index behind those that were read matters: a row as long that has the same ones up to there has the same answer
pub unread : (j : ℕ) (r s : List ℕ) → length s ≡ length r → ((p : ℕ) → p < read_in j r → get_or s p 0 ≡ get_or r p 0) → (found_in j s ≡ found_in j r) × (read_in j s ≡ read_in j r)
unread j r s n h = go (eq-or-lt_of_le (leading-most j r))
  where
    go : (leading j r ≡ length r) ⊎ (leading j r < length r) → (found_in j s ≡ found_in j r) × (read_in j s ≡ read_in j r)
    go (inl e) =
        let m = read_none j r e in
        let b : (q : ℕ) → q < length s → get_or s q 0 < j = λ q l. rw (h q (omega arith)) (leading-below j r q (omega arith)) in
        let l : leading j s ≡ length s = leading-is j s (length s) (omega arith) b (λ k. absurd (omega arith)) in
        (found_none j s l ∙ sym (found_none j r e), read_none j s l ∙ n ∙ sym m)
    go (inr k) =
        let m = read_next j r k in
        let g : get_or s (leading j r) 0 ≡ get_or r (leading j r) 0 = h (leading j r) (omega arith) in
        let b : (q : ℕ) → q < leading j r → get_or s q 0 < j = λ q l. rw (h q (omega arith)) (leading-below j r q l) in
        let l : leading j s ≡ leading j r = leading-is j s (leading j r) (omega arith) b (λ _. rw g (leading-stops j r k)) in
        (found-next j s (omega arith) ∙ rw (l, g) (sym (found-next j r k)), read_next j s (omega arith) ∙ rw l (sym m))

-- on a right book, Find says yes exactly for the members of the row
pub find-has : (ws : List ℕ) → frame_right ws ≡ true → rows_right ws ≡ true → (d e i j : ℕ) → find_number ws d e i j ≡ 0
    → find_found ws d e i j ≡ has j (row_of ws (key d e) i)
find-has ws g r d e i j z =
    let a = rowed ws d e i (finds ws d e i j z).0 in
    let f = framed ws g in
    let l : i < count ws (key d e / 4) = rw (key-div d e (omega (arith, f.high))) a.below in
    (find-accepted ws d e i j z).0 ∙ found-has j (row_of ws (key d e) i) (row-ascends ws f r (key d e) a.there i l)
