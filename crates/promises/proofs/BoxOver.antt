-- The box of vertices of finite coordinates: every one of them lies in it, each end is attained by one, of equal ones by the first, and the box of some of them lies in the box of all.
use mathlib.Core.Path.{◌≡◌, refl, sym, ◌∙◌}
use mathlib.Core.Bool.{Bool, true, false, cond, ◌&&◌}
use mathlib.Core.List.Memᴰ
use mathlib.Core.List.Memᴰ.{head as here}
use mathlib.Core.List.{List, [], ◌∷◌, map, Memᴰ as In}
use Prim.Native.Nat.{ℕ, zero, suc, ◌+◌, ◌*◌, ◌<◌}
use native.Mathlib.Omega.{arith}
use lib.ListN.{length, get_or, length-map}
use lib.Dec.{ltb, eqb}
use lib.Ieee.{Float, lt, le}
use lib.Ieee.Scale.{finite}
use borrow.Author.Tests.{lt-ltb, ne_eqb}
use Rattle.rules.specs.Lists.{up_to, all_of}
use Rattle.rules.specs.Boxes.{greater, furthest, float_zero, coordinate, ends_along, box_over, some_box}
use Rattle.rules.proofs.Tests.{and-of, all-of, all_map, all-default, has_of, has-is}
use Rattle.rules.proofs.Keep.{up_to-is}
use Rattle.rules.proofs.Numbered.{get_d_map}
use Rattle.rules.proofs.Searched.{place_in}
use Rattle.rules.proofs.Distinct.{map_of, map_is}
use Rattle.floats.proofs.Ordered.{not-below}
use Rattle.floats.proofs.Furthest.{downward, upward, furthest-finite, furthest-one, furthest-none, furthest-earliest}
use Rattle.promises.specs.Boxes.{least, greatest, lies_in, contains, Attained, FirstStays, FlatThird}

-- ---- the box of a first vertex and the others, along axis k
module _ (axes : ℕ) (coordinates : List Float) where
  -- it has six ends, and none where there is no vertex
  pub ends-number : (vs : List ℕ) → length (box_over axes coordinates vs) ≡ cond (eqb (length vs) 0) 0 6
  unfolding box_over ends_along
  ends-number [] = refl
  ends-number (v ∷ vs) = rw (ne_eqb (length (v ∷ vs)) 0 (λ e. omega arith))

  pub some-ends : (vs : List ℕ) → some_box (box_over axes coordinates vs) ≡ ltb 0 (length vs)
  unfolding some_box box_over ends_along
  some-ends [] = refl
  some-ends (v ∷ vs) = sym (lt-ltb 0 (length (v ∷ vs)) (omega arith))

  -- there is a box over vertices that have one among them
  pub some-within : (vs us : List ℕ) → 0 < length us → ((u : ℕ) → In u us → In u vs) → some_box (box_over axes coordinates vs) ≡ true
  some-within vs [] n w = absurd (omega arith)
  some-within vs (u ∷ us) n w = let (j, l, e) = place_in vs 0 (w u (here refl)) in some-ends vs ∙ lt-ltb 0 (length vs) (omega arith)

  least-is : (v : ℕ) (vs : List ℕ) (k : ℕ) → k < 3 → least (box_over axes coordinates (v ∷ vs)) k ≡ furthest lt (coordinate axes coordinates k v) (map (coordinate axes coordinates k) vs)
  unfolding least box_over ends_along
  least-is v vs zero l = refl
  least-is v vs (suc zero) l = refl
  least-is v vs (suc (suc zero)) l = refl
  least-is v vs (suc (suc (suc k))) l = absurd (omega arith)

  greatest-is : (v : ℕ) (vs : List ℕ) (k : ℕ) → k < 3 → greatest (box_over axes coordinates (v ∷ vs)) k ≡ furthest greater (coordinate axes coordinates k v) (map (coordinate axes coordinates k) vs)
  unfolding greatest box_over ends_along
  greatest-is v vs zero l = refl
  greatest-is v vs (suc zero) l = refl
  greatest-is v vs (suc (suc zero)) l = refl
  greatest-is v vs (suc (suc (suc k))) l = absurd (omega arith)

  -- each end is attained
  pub attained : (vs : List ℕ) → 0 < length vs → (k : ℕ) → k < 3 → Attained axes coordinates vs (box_over axes coordinates vs) k
  attained [] n k l = absurd (omega arith)
  attained (v ∷ vs) n k l =
      let at = coordinate axes coordinates k in
      let (p, i, e) = map_is at (v ∷ vs) (furthest-one lt downward (at v) (map at vs)) in
      let (q, j, g) = map_is at (v ∷ vs) (furthest-one greater upward (at v) (map at vs)) in
      record {
        low = p;
        low_among = has_of i;
        low_end = sym (least-is v vs k l ∙ e);
        high = q;
        high_among = has_of j;
        high_end = sym (greatest-is v vs k l ∙ g);
      }

  -- ---- finite coordinates
  module _ (f : all_of finite coordinates ≡ true) where
    coordinate-finite : (k v : ℕ) → finite (coordinate axes coordinates k v) ≡ true
    unfolding coordinate float_zero
    coordinate-finite k v = go (ltb k axes)
      where
        go : (t : Bool) → finite (cond t (get_or coordinates (axes * v + k) float_zero) float_zero) ≡ true
        go true = all-default finite coordinates float_zero f refl (axes * v + k)
        go false = refl

    all-finite : (k : ℕ) (vs : List ℕ) → all_of finite (map (coordinate axes coordinates k) vs) ≡ true
    all-finite k vs = all_map finite (coordinate axes coordinates k) vs (all-of (λ v. finite (coordinate axes coordinates k v)) vs (λ v i. coordinate-finite k v))

    least-le : (v : ℕ) (vs : List ℕ) (k : ℕ) → k < 3 → (u : ℕ) → In u (v ∷ vs) → le (least (box_over axes coordinates (v ∷ vs)) k) (coordinate axes coordinates k u) ≡ true
    least-le v vs k l u i =
        let at = coordinate axes coordinates k in
        rw (least-is v vs k l)
        (not-below (furthest lt (at v) (map at vs)) (at u) (furthest-finite lt downward (at v) (map at vs) (coordinate-finite k v) (all-finite k vs)) (coordinate-finite k u)
        (furthest-none lt downward (at v) (map at vs) (at u) (coordinate-finite k v) (all-finite k vs) (map_of at i)))

    le-greatest : (v : ℕ) (vs : List ℕ) (k : ℕ) → k < 3 → (u : ℕ) → In u (v ∷ vs) → le (coordinate axes coordinates k u) (greatest (box_over axes coordinates (v ∷ vs)) k) ≡ true
    unfolding greater
    le-greatest v vs k l u i =
        let at = coordinate axes coordinates k in
        rw (greatest-is v vs k l)
        (not-below (at u) (furthest greater (at v) (map at vs)) (coordinate-finite k u) (furthest-finite greater upward (at v) (map at vs) (coordinate-finite k v) (all-finite k vs))
        (furthest-none greater upward (at v) (map at vs) (at u) (coordinate-finite k v) (all-finite k vs) (map_of at i)))

    -- every vertex lies in the box
    pub lies-in : (vs : List ℕ) (u : ℕ) → In u vs → lies_in axes coordinates (box_over axes coordinates vs) u ≡ true
    unfolding lies_in
    lies-in [] u i = absurd (Memᴰ.not-nil i)
    lies-in (v ∷ vs) u i =
        let box = box_over axes coordinates (v ∷ vs) in
        all-of (λ k. le (least box k) (coordinate axes coordinates k u) && le (coordinate axes coordinates k u) (greatest box k)) (up_to 3)
        (λ k j. let l = up_to-is k 3 j in and-of _ _ (least-le v vs k l u i) (le-greatest v vs k l u i))

    -- the box of some of the vertices lies in the box of all
    pub box-within : (vs us : List ℕ) → 0 < length us → ((u : ℕ) → In u us → In u vs) → contains (box_over axes coordinates vs) (box_over axes coordinates us) ≡ true
    unfolding contains
    box-within vs [] n w = absurd (omega arith)
    box-within [] (u ∷ us) n w = absurd (Memᴰ.not-nil (w u (here refl)))
    box-within (v ∷ vs) (u ∷ us) n w =
        all-of (λ k. le (least outer k) (least inner k) && le (greatest inner k) (greatest outer k)) (up_to 3)
        (λ k j. along k (up_to-is k 3 j) (attained (u ∷ us) n k (up_to-is k 3 j)))
      where
        outer : List Float
        outer = box_over axes coordinates (v ∷ vs)

        inner : List Float
        inner = box_over axes coordinates (u ∷ us)

        along : (k : ℕ) → k < 3 → Attained axes coordinates (u ∷ us) inner k → (le (least outer k) (least inner k) && le (greatest inner k) (greatest outer k)) ≡ true
        along k l a =
            rw (← a.low_end, ← a.high_end)
            (and-of _ _ (least-le v vs k l a.low (w a.low (has-is a.low (u ∷ us) a.low_among))) (le-greatest v vs k l a.high (w a.high (has-is a.high (u ∷ us) a.high_among))))

-- ---- which of equal coordinates
pub first-stays : FirstStays
unfolding greater
first-stays axes coordinates [] f n k l = absurd (omega arith)
first-stays axes coordinates (v ∷ vs) f n k l =
    let at = coordinate axes coordinates k in
    let F = coordinate-finite axes coordinates f k v in
    let G = all-finite axes coordinates f k vs in
    let a = furthest-earliest lt downward (at v) (map at vs) float_zero F G in
    let b = furthest-earliest greater upward (at v) (map at vs) float_zero F G in
    let there : (p : ℕ) → p < length (map at (v ∷ vs)) → p < length (v ∷ vs) = λ p h. omega (arith, length-map (v ∷ vs) at) in
    record {
      low = a.place;
      low_there = there a.place a.there;
      low_end = sym (get_d_map at (v ∷ vs) a.place 0 float_zero (there a.place a.there)) ∙ a.is ∙ sym (least-is axes coordinates v vs k l);
      low_before = λ q h. rw (least-is axes coordinates v vs k l, ← get_d_map at (v ∷ vs) q 0 float_zero (omega (arith, there a.place a.there))) (a.before q h);
      high = b.place;
      high_there = there b.place b.there;
      high_end = sym (get_d_map at (v ∷ vs) b.place 0 float_zero (there b.place b.there)) ∙ b.is ∙ sym (greatest-is axes coordinates v vs k l);
      high_before = λ q h. rw (greatest-is axes coordinates v vs k l, ← get_d_map at (v ∷ vs) q 0 float_zero (omega (arith, there b.place b.there))) (b.before q h);
    }

-- ---- two axes
pub flat-third : FlatThird
unfolding coordinate
flat-third coordinates [] = unfold box_over least greatest in (refl, refl)
flat-third coordinates (v ∷ vs) =
    let a = attained 2 coordinates (v ∷ vs) (omega arith) 2 (omega arith) in
    (sym a.low_end, sym a.high_end)
