-- Drop keeps a right book right: what is left obeys the frame rule and the row rule, and each relation that is left is as it was.
use mathlib.Core.Path.{◌≡◌, refl, sym, ap, ◌∙◌}
use mathlib.Core.Bool.{Bool, true, false, cond, ◌&&◌}
use mathlib.Core.Logic.{◌⊎◌, inl, inr}
use mathlib.Core.List.{List, [], append-nil}
use Prim.Native.Nat.{ℕ, zero, suc, ◌+◌, ◌-◌, ◌*◌, ◌/◌, ◌%◌, ◌^◌, ◌≤◌, ◌<◌}
use native.Mathlib.Nat.{eq-or-lt_of_le, eq-zero-or-pos}
use native.Mathlib.Decide.{ℕ_discrete}
use native.Mathlib.Omega.{arith}
use lib.ListN.{length, get_or, take, drop, replicate, length-append, take-append-drop}
use lib.Seq.{get_or-take}
use lib.Dec.{eqb, ltb, leb}
use borrow.Author.Tests.{lt-ltb, le-leb, eqb-true, ltb-true, leb-true}
use Rattle.rules.specs.Lists.{filled}
use Rattle.rules.specs.Book.{dim, count, key, held, mentions, rows_of, relation, relations, head_right, key_right, most, count_right, frame_right, row_right, rows_right, Right}
use Rattle.rules.specs.Calls.{count_left, dropped, drop_number, drop_words}
use Rattle.rules.proofs.Tests.{left, right, all_weaker}
use Rattle.rules.proofs.Mentions.{mentions-of}
use Rattle.rules.proofs.FrameRule.{Framed, framed, held_below, count-top, count-inner, word-most}
use Rattle.rules.proofs.Assembled.{assembled, assembled-is, head-dim, assembled-held, assembled-rows}
use Rattle.rules.proofs.Sound.{Sound, sound-high, sound-frame, sound-rows, right-sound}
use Rattle.rules.proofs.RightBook.{right-assembled}
use Rattle.rules.proofs.Dropped.{head_less, head_less-head, held-gone, held-rest, dropped-assembled, dropped-used}
use Rattle.rules.proofs.Accepted.{Drops, drops, drop-is}
use Rattle.rules.proofs.RightMake.{filled-assembled}

-- ---- sound parts, without d→e
module _ (head : List ℕ) (rows : ℕ → List (List ℕ)) (s : Sound head rows) (d e : ℕ) (ld : d ≤ dim head) (le : e ≤ dim head)
    (on : held head (key d e) ≡ true) (inner : d ≡ dim head → e ≡ 0 → ⊥) where
  high : dim head ≤ 3
  high = sound-high head rows s

  low : 0 < dim head
  low = let q = s.first in unfold head_right dim in search (left, right, ltb-true)

  key_below : key d e < 16
  unfolding key
  key_below = omega (arith, high)

  abbrev less : List ℕ
  less = head_less head (key d e) (length (relation (rows (key d e))))

  dim-less : dim less ≡ dim head
  unfolding dim head_less
  dim-less = refl

  -- what is held now was held
  was-held : (j : ℕ) → held less j ≡ true → held head j ≡ true
  was-held j h = go (ℕ_discrete j (key d e))
    where
      go : Dec (j ≡ key d e) → held head j ≡ true
      go (yes i) = rw i on
      go (no o) = sym (held-rest head (key d e) _ on j o) ∙ h

  key-parts : (k : ℕ) → held head k ≡ true → (k / 4 ≤ dim head) × (k % 4 ≤ dim head)
  unfolding key_right
  key-parts k h =
      let q = s.keyed k h in
      let a : k / 4 ≤ dim head = search (left, leb-true) in
      let b : k % 4 ≤ dim head = search (right, leb-true) in
      (a, b)

  keyed : (k : ℕ) → held less k ≡ true → key_right less k ≡ true
  unfolding key_right
  keyed k h = let (a, b) = key-parts k (was-held k h) in rw (dim-less, le-leb (k / 4) (dim head) a, le-leb (k % 4) (dim head) b)

  apart : key (dim head) 0 ≡ key d e → ⊥
  apart i = inner (unfold key in omega (arith, high)) (unfold key in omega (arith, high))

  -- ---- counts
  word-less : (x : ℕ) → 0 < x → x < 3 → get_or less (1 + x) 0 ≡ cond (ltb x (dim head) && mentions (held less) x) (get_or head (1 + x) 0) 0
  unfolding head_less count_left held
  word-less zero p l = absurd (omega arith)
  word-less (suc zero) p l = refl
  word-less (suc (suc zero)) p l = refl
  word-less (suc (suc (suc x))) p l = absurd (omega arith)

  cells-kept : count less (dim head) ≡ count head (dim head)
  cells-kept = ap (count less) (sym dim-less) ∙ count-top less (rw dim-less low) ∙ word ∙ sym (count-top head low)
    where
      word : get_or less 0 0 / 2 ^ 3 % 2 ^ 13 ≡ get_or head 0 0 / 2 ^ 3 % 2 ^ 13
      word = unfold head_less in refl

  -- a dimension that is still named keeps its count
  count-named : (x : ℕ) → x ≤ dim head → mentions (held less) x ≡ true → count less x ≡ count head x
  count-named x l t = go (eq-zero-or-pos x) (eq-or-lt_of_le l)
    where
      first : count less 0 ≡ count head 0
      first = unfold count head_less in refl

      go : (x ≡ 0) ⊎ (0 < x) → (x ≡ dim head) ⊎ (x < dim head) → count less x ≡ count head x
      go (inl q) b = rw q first
      go (inr p) (inl q) = rw q cells-kept
      go (inr p) (inr q) =
          count-inner less x p (rw dim-less q) ∙ word-less x p (omega (arith, high)) ∙ rw (lt-ltb x (dim head) q, t) (sym (count-inner head x p q))

  counts-right : (x : ℕ) → 0 < x → x < 3 → count_right head x ≡ true → count_right less x ≡ true
  unfolding count_right
  counts-right x p l c = rw (dim-less, word-less x p l, cells-kept) (go (ltb x (dim head) && mentions (held less) x))
    where
      go : (b : Bool) → cond b (leb (cond b (get_or head (1 + x) 0) 0) (most (dim head) x * count head (dim head))) (eqb (cond b (get_or head (1 + x) 0) 0) 0) ≡ true
      go true = le-leb _ _ (word-most head x c)
      go false = refl

  still : (k : ℕ) → held less k ≡ true → (count less (k / 4) ≡ count head (k / 4)) × (count less (k % 4) ≡ count head (k % 4))
  still k h =
      let g = was-held k h in
      let (a, b) = key-parts k g in
      let l = held_below head k s.mask g in
      (count-named (k / 4) a (mentions-of (held less) k (k / 4) l h (inl refl)), count-named (k % 4) b (mentions-of (held less) k (k % 4) l h (inr refl)))

  -- ---- rows
  row_kept : (k : ℕ) → held less k ≡ true → (r : List ℕ) → row_right head k r ≡ true → row_right less k r ≡ true
  unfolding row_right
  row_kept k h r c = rw (still k h).1 c

  pub sound-less : Sound less rows
  sound-less = record {
    five = unfold head_less in refl;
    first = unfold head_less in s.first;
    mask = unfold head_less in omega (arith, s.mask);
    keyed = keyed;
    top = rw dim-less (held-rest head (key d e) _ on (key (dim head) 0) apart ∙ s.top);
    edges = counts-right 1 (omega arith) (omega arith) s.edges;
    faces = counts-right 2 (omega arith) (omega arith) s.faces;
    used = dropped-used head s.five rows [] s.sizes s.used d e key_below on;
    sizes = λ k l h. (still k h).0 ∙ s.sizes k l (was-held k h);
    rowed = λ k h. all_weaker (row_right head k) (row_right less k) (row_kept k h) (rows k) (s.rowed k (was-held k h));
    unlike = rw dim-less s.unlike;
  }

assembled-size : (head : List ℕ) (rows : ℕ → List (List ℕ)) → length head ≡ 5 → length (assembled head rows []) ≡ 5 + length (relations (held head) rows 16)
assembled-size head rows five = rw (assembled-is, append-nil, length-append, five)

-- ---- a right book
module _ (ws : List ℕ) (g : Right ws) (d e : ℕ) (a : Drops ws d e) where
  f : Framed ws
  f = framed ws g.frame

  abbrev head : List ℕ
  head = take 5 ws

  s : Sound head (rows_of ws)
  s = right-sound ws g.frame g.rows

  whole : ws ≡ assembled head (rows_of ws) (replicate (length ws - get_or ws 4 0) 0)
  whole = right-assembled ws f g.rows

  dim-is : dim ws ≡ dim head
  dim-is = ap dim (whole ∙ assembled-is head (rows_of ws) _) ∙ head-dim head s.five _

  held-is : (k : ℕ) → held ws k ≡ held head k
  held-is k = ap (λ (w : List ℕ). held w k) whole ∙ assembled-held head s.five (rows_of ws) _ k

  there : held head (key d e) ≡ true
  there = sym (held-is (key d e)) ∙ a.there

  abbrev hd : List ℕ
  hd = head_less head (key d e) (length (relation (rows_of ws (key d e))))

  after : Sound hd (rows_of ws)
  after = sound-less head (rows_of ws) s d e (rw (← dim-is) a.first) (rw (← dim-is) a.second) there (λ i j. a.inner (i ∙ sym dim-is) j)

  -- the words without d→e are assembled from sound parts
  pub dropped-is : dropped ws d e ≡ assembled hd (rows_of ws) []
  dropped-is =
      ap (λ (w : List ℕ). dropped w d e) whole
      ∙ dropped-assembled head s.five (rows_of ws) (replicate (length ws - get_or ws 4 0) 0) s.sizes s.used d e (unfold key in omega (arith, f.high, a.first, a.second)) there

  filled_is : (n : ℕ) → filled n (dropped ws d e) ≡ assembled hd (rows_of ws) (replicate (n - length (assembled hd (rows_of ws) [])) 0)
  filled_is n = ap (filled n) dropped-is ∙ filled-assembled n hd (rows_of ws)

  pub dropped-right : (n : ℕ) → Right (filled n (dropped ws d e))
  dropped-right n =
      let z = n - length (assembled hd (rows_of ws) []) in
      record { frame = ap frame_right (filled_is n) ∙ sound-frame hd (rows_of ws) after z; rows = ap rows_right (filled_is n) ∙ sound-rows hd (rows_of ws) after z }

  -- what is held then, and its rows
  pub dropped-gone : (n : ℕ) → held (filled n (dropped ws d e)) (key d e) ≡ false
  dropped-gone n = ap (λ (w : List ℕ). held w (key d e)) (filled_is n) ∙ assembled-held hd after.five (rows_of ws) _ (key d e) ∙ held-gone head (key d e) _ there

  pub dropped-held : (n k : ℕ) → (k ≡ key d e → ⊥) → held (filled n (dropped ws d e)) k ≡ held ws k
  dropped-held n k o =
      ap (λ (w : List ℕ). held w k) (filled_is n) ∙ assembled-held hd after.five (rows_of ws) _ k ∙ held-rest head (key d e) _ there k o ∙ sym (held-is k)

  pub dropped-rows : (n k : ℕ) → (k ≡ key d e → ⊥) → held ws k ≡ true → rows_of (filled n (dropped ws d e)) k ≡ rows_of ws k
  dropped-rows n k o h =
      ap (λ (w : List ℕ). rows_of w k) (filled_is n)
      ∙ assembled-rows hd after.five (rows_of ws) _ after.sizes k (held_below ws k f.mask h) (held-rest head (key d e) _ there k o ∙ sym (held-is k) ∙ h)

  pub dropped-length : length (dropped ws d e) ≤ length ws
  dropped-length =
      let w = ap length dropped-is ∙ assembled-size hd (rows_of ws) after.five in
      omega (arith, after.used, less-used, get_or-take 5 ws 4 0 (omega arith), f.fits)
    where
      less-used : get_or (head_less (take 5 ws) (key d e) (length (relation (rows_of ws (key d e))))) 4 0 ≤ get_or (take 5 ws) 4 0
      less-used = unfold head_less in omega arith

  -- its head, from the words themselves
  pub head-less : (n : ℕ) → head_less ws (key d e) n ≡ head_less (take 5 ws) (key d e) n
  head-less n = ap (λ (w : List ℕ). head_less w (key d e) n) (sym (take-append-drop 5 ws)) ∙ head_less-head (take 5 ws) s.five (drop 5 ws) (key d e) n

-- ---- the call
pub drop-right : (ws : List ℕ) → Right ws → (d e : ℕ) → Right (drop_words ws d e)
drop-right ws g d e = rw (drop-is ws d e) (go (eqb (drop_number ws d e) 0) refl)
  where
    go : (b : Bool) → eqb (drop_number ws d e) 0 ≡ b → Right (cond b (filled (length ws) (dropped ws d e)) ws)
    go true q = dropped-right ws g d e (drops ws d e (eqb-true (drop_number ws d e) 0 q)) (length ws)
    go false q = g
