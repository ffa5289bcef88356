-- The position that is told is the lowest where something is bad, offsets counted before indices.
use mathlib.Core.Path.{◌≡◌, sym, ap, ◌∙◌}
use mathlib.Core.Bool.{Bool, true, false, ◌&&◌, ◌||◌, false≢true}
use mathlib.Core.Logic.{◌⊎◌, inl, inr}
use mathlib.Core.List.{List}
use Prim.Native.Nat.{ℕ, suc, ◌+◌, ◌-◌, ◌/◌, ◌≤◌, ◌<◌}
use native.Mathlib.Numerals.{add-one}
use native.Mathlib.Omega.{arith}
use lib.ListN.{length}
use lib.Dec.{ltb, leb}
use borrow.Author.Tests.{ltb-true, leb-true, lt-ltb, le-leb, lt-leb}
use Rattle.rules.specs.Lists.{up_to, any_of, first_at}
use Rattle.rules.specs.Book.{count, held, offset, total, row_of}
use Rattle.rules.specs.Broken.{offset_bad, index_bad, row_bad, relation_bad, bad_place, index_seen, seen_at}
use Rattle.rules.proofs.Compared.{order, lt-or-le}
use Rattle.rules.proofs.Tests.{cases, left, right, any-of, any_none, none_of}
use Rattle.rules.proofs.Keep.{up_to-of, up_to-is}
use Rattle.rules.proofs.Numbered.{length-up_to}
use Rattle.rules.proofs.Searched.{any-first, least-passes, least-before, least-is}
use Rattle.rules.proofs.Steps.{not_so}
use Rattle.rules.proofs.FrameRule.{Framed}
use Rattle.rules.proofs.BrokenFound.{seen-rises, seen-total, seen-length}

-- what it says
pub record Seen (ws : List ℕ) (k p i : ℕ) : Type 0 where
  pub low : count ws (k / 4) + 1 + offset ws k i ≤ p
  pub high : p < count ws (k / 4) + 1 + offset ws k (suc i)
  pub bad : index_bad ws k i (p - (count ws (k / 4) + 1 + offset ws k i)) ≡ true

pub seen : (ws : List ℕ) (k p i : ℕ) → index_seen ws k p i ≡ true → Seen ws k p i
unfolding index_seen
seen ws k p i t =
    let n = count ws (k / 4) + 1 in
    let a = leb (n + offset ws k i) p in
    let b = ltb p (n + offset ws k (i + 1)) in
    let c = index_bad ws k i (p - (n + offset ws k i)) in
    record {
      low = leb-true (n + offset ws k i) p (left a b (left (a && b) c t));
      high = rw (add-one i) at (ltb-true p (n + offset ws k (i + 1)) (right a b (left (a && b) c t)));
      bad = right (a && b) c t;
    }

-- some number below n passes exactly when the least that does lies below n
module _ (p : ℕ → Bool) (n : ℕ) where
  least-any : any_of p (up_to n) ≡ true → first_at p (up_to n) < n
  least-any h = ltb-true _ _ (rw length-up_to at (sym (any-first p (up_to n)) ∙ h))

module _ (ws : List ℕ) (f : Framed ws) (k : ℕ) (h : held ws k ≡ true) where
  abbrev n : ℕ
  n = count ws (k / 4)

  -- the words of the relation
  abbrev many : ℕ
  many = n + 1 + total ws k

  -- ---- a fault among the offsets
  module _ (b : any_of (offset_bad ws k) (up_to (n + 1)) ≡ true) where
    p : ℕ
    p = first_at (offset_bad ws k) (up_to (n + 1))

    p-below : p < n + 1
    unfolding p
    p-below = least-any (offset_bad ws k) (n + 1) b

    p-place : bad_place ws k ≡ p
    unfolding bad_place p
    p-place = rw (le-leb p n (omega (arith, p-below)))

    p-seen : seen_at ws k p ≡ true
    unfolding seen_at p
    p-seen = rw (le-leb p n (omega (arith, p-below))) (least-passes (offset_bad ws k) (n + 1) p-below)

    p-lowest : bad_place ws k ≡ first_at (seen_at ws k) (up_to many)
    unfolding seen_at p
    p-lowest =
        p-place
        ∙ sym (least-is (seen_at ws k) many p (omega (arith, p-below)) (λ j l. rw (le-leb j n (omega (arith, p-below))) (least-before (offset_bad ws k) (n + 1) j l)) (λ l. p-seen))

  -- ---- a fault among the indices alone
  module _ (a : any_of (offset_bad ws k) (up_to (n + 1)) ≡ false) (b : any_of (row_bad ws k) (up_to n) ≡ true) where
    fine : (p : ℕ) → p ≤ n → offset_bad ws k p ≡ false
    fine p l = none_of (offset_bad ws k) a (up_to-of p (n + 1) (omega arith))

    i : ℕ
    i = first_at (row_bad ws k) (up_to n)

    i-below : i < n
    unfolding i
    i-below = least-any (row_bad ws k) n b

    q : ℕ
    q = first_at (index_bad ws k i) (up_to (length (row_of ws k i)))

    q-below : q < length (row_of ws k i)
    unfolding q row_bad i
    q-below = least-any (index_bad ws k i) (length (row_of ws k i)) (least-passes (row_bad ws k) n i-below)

    q-bad : index_bad ws k i q ≡ true
    unfolding q
    q-bad = least-passes (index_bad ws k i) (length (row_of ws k i)) q-below

    q-before : (z : ℕ) → z < q → index_bad ws k i z ≡ false
    unfolding q
    q-before z l = least-before (index_bad ws k i) (length (row_of ws k i)) z l

    i-before : (x : ℕ) → x < i → (z : ℕ) → z < length (row_of ws k x) → index_bad ws k x z ≡ false
    unfolding i row_bad
    i-before x l z m = none_of (index_bad ws k x) (least-before (row_bad ws k) n x l) (up_to-of z (length (row_of ws k x)) m)

    q-within : offset ws k i + q < offset ws k (suc i)
    q-within = omega (arith, q-below, seen-length ws f k h fine i i-below)

    here : ℕ
    here = n + 1 + offset ws k i + q

    no-offset : first_at (offset_bad ws k) (up_to (n + 1)) ≡ n + 1
    no-offset = least-is (offset_bad ws k) (n + 1) (n + 1) (omega arith) (λ j l. fine j (omega arith)) (λ l. absurd (omega arith))

    here_place : bad_place ws k ≡ here
    unfolding bad_place here i q
    here_place = rw (no-offset, lt-leb (n + 1) n (omega arith))

    here-index : index_seen ws k here i ≡ true
    unfolding index_seen here
    here-index =
        let e : n + 1 + offset ws k i + q - (n + 1 + offset ws k i) ≡ q = omega arith in
        let l : n + 1 + offset ws k i + q < n + 1 + offset ws k (i + 1) = rw (add-one i) (omega (arith, q-within)) in
        rw (le-leb (n + 1 + offset ws k i) (n + 1 + offset ws k i + q) (omega arith), lt-ltb (n + 1 + offset ws k i + q) (n + 1 + offset ws k (i + 1)) l, e)
        q-bad

    here-seen : seen_at ws k here ≡ true
    unfolding seen_at
    here-seen = rw (lt-leb here n (unfold here in omega arith)) (any-of (index_seen ws k here) (up_to-of i n i-below) here-index)

    -- an index of row x at a lower position
    module _ (j : ℕ) (l : j < here) (x : ℕ) (m : x < n) where
      row_before : index_seen ws k j x ≡ true → ⊥
      unfolding here
      row_before t = go (order x i)
        where
          s : Seen ws k j x
          s = seen ws k j x t

          go : (x ≡ i) ⊎ ((x < i) ⊎ (i < x)) → ⊥
          go (inl e) =
              let o = ap (offset ws k) e in
              let y : j - (n + 1 + offset ws k x) < q = omega (arith, s.low, s.high) in
              false≢true (sym (q-before (j - (n + 1 + offset ws k x)) y) ∙ ap (λ (z : ℕ). index_bad ws k z (j - (n + 1 + offset ws k x))) (sym e) ∙ s.bad)
          go (inr (inl e)) =
              let z : j - (n + 1 + offset ws k x) < length (row_of ws k x) = rw (seen-length ws f k h fine x m) (omega (arith, s.low, s.high)) in
              false≢true (sym (i-before x e (j - (n + 1 + offset ws k x)) z) ∙ s.bad)
          go (inr (inr e)) = omega (arith, s.low, seen-rises ws f k h fine (suc i) x e (omega arith), q-within)

    before : (j : ℕ) → j < here → seen_at ws k j ≡ false
    unfolding seen_at
    before j l =
        elim (lt-or-le n j) [
          | inl m ↦ rw (lt-leb j n m) (any_none (index_seen ws k j) (up_to n) (λ x y. not_so _ (row_before j l x (up_to-is x n y))))
          | inr m ↦ rw (le-leb j n m) (fine j m)
        ]

    here-below : here < many
    unfolding here
    here-below = omega (arith, q-within, seen-total ws f k h fine (suc i) i-below)

    here-lowest : bad_place ws k ≡ first_at (seen_at ws k) (up_to many)
    here-lowest = here_place ∙ sym (least-is (seen_at ws k) many here (omega (arith, here-below)) before (λ l. here-seen))

  -- ---- no fault
  module _ (a : any_of (offset_bad ws k) (up_to (n + 1)) ≡ false) (b : any_of (row_bad ws k) (up_to n) ≡ false) where
    fine-all : (p : ℕ) → p ≤ n → offset_bad ws k p ≡ false
    fine-all p l = none_of (offset_bad ws k) a (up_to-of p (n + 1) (omega arith))

    row-none : (x : ℕ) → x < n → (z : ℕ) → z < length (row_of ws k x) → index_bad ws k x z ≡ false
    unfolding row_bad
    row-none x l z m = none_of (index_bad ws k x) (none_of (row_bad ws k) b (up_to-of x n l)) (up_to-of z (length (row_of ws k x)) m)

    none_seen : (j : ℕ) → seen_at ws k j ≡ false
    unfolding seen_at
    none_seen j =
        elim (lt-or-le n j) [
          | inl m ↦ rw (lt-leb j n m) (any_none (index_seen ws k j) (up_to n) (λ x y. not_so _ (none-index j x (up_to-is x n y))))
          | inr m ↦ rw (le-leb j n m) (fine-all j m)
        ]
      where
        none-index : (j x : ℕ) → x < n → index_seen ws k j x ≡ true → ⊥
        none-index j x m t =
            let s = seen ws k j x t in
            let z : j - (n + 1 + offset ws k x) < length (row_of ws k x) = rw (seen-length ws f k h fine-all x m) (omega arith) in
            false≢true (sym (row-none x m (j - (n + 1 + offset ws k x)) z) ∙ s.bad)

  pub lowest-seen : relation_bad ws k ≡ true → bad_place ws k ≡ first_at (seen_at ws k) (up_to many)
  unfolding relation_bad
  lowest-seen b = elim (cases (any_of (offset_bad ws k) (up_to (n + 1)))) [ inl a ↦ p-lowest a | inr a ↦ here-lowest a (rw a at b) ]

  -- it lies within the relation's words
  pub place-within : relation_bad ws k ≡ true → bad_place ws k < many
  unfolding relation_bad
  place-within b =
      elim (cases (any_of (offset_bad ws k) (up_to (n + 1)))) [
        | inl a ↦ omega (arith, p-place a, p-below a)
        | inr a ↦ let c : any_of (row_bad ws k) (up_to n) ≡ true = rw a at b in omega (arith, here_place a c, here-below a c)
      ]

  -- a fault is seen at some position exactly when the relation breaks a rule
  pub seen-somewhere : relation_bad ws k ≡ any_of (seen_at ws k) (up_to many)
  unfolding relation_bad
  seen-somewhere = go (cases (any_of (offset_bad ws k) (up_to (n + 1)))) (cases (any_of (row_bad ws k) (up_to n)))
    where
      go : (any_of (offset_bad ws k) (up_to (n + 1)) ≡ true) ⊎ (any_of (offset_bad ws k) (up_to (n + 1)) ≡ false)
          → (any_of (row_bad ws k) (up_to n) ≡ true) ⊎ (any_of (row_bad ws k) (up_to n) ≡ false)
          → (any_of (offset_bad ws k) (up_to (n + 1)) || any_of (row_bad ws k) (up_to n)) ≡ any_of (seen_at ws k) (up_to many)
      go (inl a) y = rw a (sym (any-of (seen_at ws k) (up_to-of (p a) many (omega (arith, p-below a))) (p-seen a)))
      go (inr a) (inl b) = rw (a, b) (sym (any-of (seen_at ws k) (up_to-of (here a b) many (here-below a b)) (here-seen a b)))
      go (inr a) (inr b) = rw (a, b) (sym (any_none (seen_at ws k) (up_to many) (λ j m. none_seen a b j)))
