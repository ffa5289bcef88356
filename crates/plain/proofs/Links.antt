-- The walk along the table of links.
use mathlib.Core.Path.{◌≡◌, refl, sym, ap, ◌∙◌}
use mathlib.Core.Logic.{◌⊎◌, inl, inr}
use mathlib.Core.Bool.{true, false, false≢true}
use mathlib.Core.List.{List, Memᴰ as In}
use Prim.Native.Nat.{ℕ, zero, suc, ◌+◌, ◌-◌, ◌*◌, ◌/◌, ◌≤◌, ◌<◌}
use native.Mathlib.Nat.{mul-le-mul_right, div-mul-le_self, mul-add-div_right, div-eq_of_lt, add-zero, suc-mul}
use native.Mathlib.Omega.{arith}
use lib.ListN.{length, get_or}
use Rattle.rules.specs.Lists.{up_to, any_of, inside}
use Rattle.rules.specs.Chains.{Newest}
use Rattle.rules.proofs.Compared.{lt-or-le, order}
use Rattle.rules.proofs.Steps.{not_so}
use Rattle.rules.proofs.Tests.{any-of, has_of, get_or-in, inside-at, any_none}
use Rattle.rules.proofs.Keep.{up_to-is, up_to-of}
use Rattle.rules.proofs.Distinct.{map_is, map_of}
use Rattle.rules.proofs.Searched.{place_in}
use Rattle.plain.specs.Cells.{cell_at, cells_before}
use Rattle.plain.specs.Links.{Linked, Small, FirstOf, AtCorner}
use Rattle.plain.proofs.Before.{cell-fits, cell-long, cell-word}

-- ---- the walk: what is passed does not have the set
pub record Walking (ws : List ℕ) (size c v : ℕ) (s : List ℕ) (x : ℕ) : Type 0 where
  pub high : x ≤ c * size
  pub here : (q : ℕ) → x ≡ suc q → get_or ws q 0 ≡ v
  pub passed : (q : ℕ) → x ≤ q → q < c * size → get_or ws q 0 ≡ v → inside s (cell_at size ws (q / size)) ≡ false

-- a place of a cell
pub place-cell : (size b k : ℕ) → k < size → (b * size + k) / size ≡ b
place-cell size b k l = let pos : 0 < size = omega arith in mul-add-div_right pos b k ∙ rw (div-eq_of_lt l) (add-zero b)

module _ (ws : List ℕ) (size c v : ℕ) (s : List ℕ) (pos : 0 < size) (fits : c * size ≤ length ws) where
  -- the cell of a place
  pub cell_below : (q : ℕ) → q < c * size → q / size < c
  cell_below q l = go (lt-or-le (q / size) c)
    where
      go : (q / size < c) ⊎ (c ≤ q / size) → q / size < c
      go (inl x) = x
      go (inr x) = let a = mul-le-mul_right {m = c} {n = q / size} size x in let b = div-mul-le_self q size in absurd (omega arith)

  before_of : (b : ℕ) → b < c → In (cell_at size ws b) (cells_before size ws c)
  unfolding cells_before
  before_of b l = map_of (cell_at size ws) (up_to-of b c l)

  pub walk-found : (x : ℕ) → Walking ws size c v s x → 0 < x → inside s (cell_at size ws ((x - 1) / size)) ≡ true → any_of (inside s) (cells_before size ws c) ≡ true
  walk-found x w l h = any-of (inside s) (before_of ((x - 1) / size) (cell_below (x - 1) (omega (arith, w.high)))) h

  pub walk_end : (x : ℕ) → Walking ws size c v s x → x ≤ 0 → In v s → any_of (inside s) (cells_before size ws c) ≡ false
  unfolding cells_before
  walk_end x w l i = any_none (inside s) (cells_before size ws c) (λ t j. not_so (inside s t) (λ h. contrary t j h))
    where
      at_place : (t : List ℕ) (b k : ℕ) → b < c → t ≡ cell_at size ws b → k < length t → get_or t k 0 ≡ v → inside s t ≡ true → ⊥
      at_place t b k m e n g h =
          let m' : k < size = omega (arith, n, ap length e, cell-long size ws b (cell-fits size ws b c m fits)) in
          let a = mul-le-mul_right {m = suc b} {n = c} size m in
          let z = suc-mul b size in
          let p : get_or ws (b * size + k) 0 ≡ v = cell-word size ws b k m' ∙ ap (λ (y : List ℕ). get_or y k 0) (sym e) ∙ g in
          let f = w.passed (b * size + k) (omega arith) (omega arith) p in
          false≢true (sym f ∙ rw (place-cell size b k m') (ap (inside s) (sym e) ∙ h))

      contrary : (t : List ℕ) → In t (cells_before size ws c) → inside s t ≡ true → ⊥
      contrary t j h =
          let (b, y, e) = map_is (cell_at size ws) (up_to c) j in
          let (k, n, g) = place_in t 0 (inside-at s t h v i) in
          at_place t b k (up_to-is b c y) e n (sym g) h

  pub walk-on : (earlier : List ℕ) (x : ℕ) → Linked ws earlier (length ws) → Walking ws size c v s x → 0 < x → inside s (cell_at size ws ((x - 1) / size)) ≡ false
      → Walking ws size c v s (get_or earlier (x - 1) 0)
  walk-on earlier x k w l h =
      let e : get_or ws (x - 1) 0 ≡ v = w.here (x - 1) (omega arith) in
      let a = k.older (x - 1) (omega (arith, w.high)) in
      record {
        high = omega (arith, a.within, w.high);
        here = λ q z. a.own q z ∙ e;
        passed = λ q y m g. step q y m g a e;
      }
    where
      step : (q : ℕ) → get_or earlier (x - 1) 0 ≤ q → q < c * size → get_or ws q 0 ≡ v → Newest (λ q. get_or ws q 0) (get_or ws (x - 1) 0) (x - 1) (get_or earlier (x - 1) 0) → get_or ws (x - 1) 0 ≡ v
          → inside s (cell_at size ws (q / size)) ≡ false
      step q y m g a e = go (order q (x - 1))
        where
          go : (q ≡ x - 1) ⊎ ((q < x - 1) ⊎ (x - 1 < q)) → inside s (cell_at size ws (q / size)) ≡ false
          go (inl z) = rw z h
          go (inr (inl z)) = absurd (a.none q y z (g ∙ sym e))
          go (inr (inr z)) = w.passed q (omega arith) m g

  pub walk_start : (earlier : List ℕ) (at : ℕ) → Linked ws earlier (length ws) → at < length ws → c * size ≤ at → get_or ws at 0 ≡ v
      → ((q : ℕ) → c * size ≤ q → q < at → get_or ws q 0 ≡ v → ⊥) → Walking ws size c v s (get_or earlier at 0)
  walk_start earlier at k l m e n =
      let a = k.older at l in
      record {
        high = high (get_or earlier at 0) refl a;
        here = λ q z. a.own q z ∙ e;
        passed = λ q y z g. absurd (a.none q y (omega arith) (g ∙ sym e));
      }
    where
      high : (x : ℕ) → get_or earlier at 0 ≡ x → Newest (λ q. get_or ws q 0) (get_or ws at 0) at (get_or earlier at 0) → x ≤ c * size
      high zero z a = omega arith
      high (suc q) z a = elim (lt-or-le q (c * size)) [ inl y ↦ omega arith | inr y ↦ absurd (n q y (omega (arith, a.within)) (a.own q z ∙ e)) ]

-- ---- the corner of a cell where a member of a set of its vertices stands
module _ (ws : List ℕ) (size c : ℕ) (cell set : List ℕ) (r k : ℕ) (fits : c * size + size ≤ length ws)
    (e : cell ≡ cell_at size ws c) (f : FirstOf cell (length cell) (get_or set r 0) k) (one : r < length set)
    (i : (j : ℕ) → In j set → In j (cell_at size ws c)) where
  word : (j : ℕ) → j < size → get_or ws (c * size + j) 0 ≡ get_or cell j 0
  word j l = cell-word size ws c j l ∙ ap (λ (x : List ℕ). get_or x j 0) (sym e)

  long : length cell ≡ size
  long = ap length e ∙ cell-long size ws c fits

  member : In (get_or set r 0) set
  member = get_or-in set r 0 one

  pub corner : k < size
  corner = elim (lt-or-le k size) [ inl x ↦ x | inr x ↦ absurd (missing x (place_in (cell_at size ws c) 0 (i (get_or set r 0) member))) ]
    where
      missing : size ≤ k → (j : ℕ) × (j < length (cell_at size ws c)) × (get_or set r 0 ≡ get_or (cell_at size ws c) j 0) → ⊥
      missing x p =
          let (j, l, g) = p in
          let m : j < size = rw (cell-long size ws c fits) at l in
          f.before j (omega arith) (ap (λ (y : List ℕ). get_or y j 0) e ∙ sym g)

  standing : AtCorner ws size c (c * size + k) set
  standing =
      let l = corner in
      let w : get_or ws (c * size + k) 0 ≡ get_or set r 0 = word k l ∙ f.found (omega (arith, long)) in
      record {
        low = omega arith;
        high = omega arith;
        one = rw w (has_of member);
        first = λ q a b g. earlier q a b (g ∙ w);
      }
    where
      earlier : (q : ℕ) → c * size ≤ q → q < c * size + k → get_or ws q 0 ≡ get_or set r 0 → ⊥
      earlier q a b g =
          let j = q - c * size in
          let z : c * size + j ≡ q = omega arith in
          let l = corner in
          f.before j (omega arith) (sym (word j (omega arith)) ∙ ap (λ (x : ℕ). get_or ws x 0) z ∙ g)

  pub at-corner : AtCorner ws size ((c * size + k) / size) (c * size + k) set
  at-corner = rw (place-cell size c k corner) standing

-- ---- each member of a set of a cell's vertices has a place in the tables
pub set-low : (ws : List ℕ) (size c : ℕ) (set : List ℕ) → Small ws → c * size + size ≤ length ws → ((j : ℕ) → In j set → In j (cell_at size ws c))
    → (k : ℕ) → k < length set → get_or set k 0 < 8192
set-low ws size c set small fits i k l =
    let (j, m, e) = place_in (cell_at size ws c) 0 (i (get_or set k 0) (get_or-in set k 0 l)) in
    let z : j < size = rw (cell-long size ws c fits) at m in
    rw (e ∙ sym (cell-word size ws c j z)) (small.below (c * size + j) (omega arith))
