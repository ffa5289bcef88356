-- A box begun as the first vertex and grown by the others, one after another, has the ends that the rules give.
use mathlib.Core.Path.{◌≡◌, refl, sym, ap, ◌∙◌}
use mathlib.Core.List.{List, [], ◌∷◌, map}
use Prim.Native.Nat.{ℕ, ◌+◌, ◌-◌, ◌≤◌, ◌<◌}
use native.Mathlib.Omega.{arith}
use native.Mathlib.Numerals.{add-one}
use lib.ListN.{length, get_or, take, drop, drop_of_length-le, length-take, length-drop}
use lib.Seq.{drop-cons, get_or-take, get_or-drop}
use lib.Ieee.{Float, lt}
use Rattle.rules.specs.Boxes.{greater, furthest, coordinate, ends_along, box_over}
use Rattle.boxes.specs.Growing.{point_of, begins_as, grown_by, ends_of}
use Rattle.boxes.specs.declared.shapes.Point.{Point}
use Rattle.boxes.specs.declared.shapes.Bounds.{Bounds}

-- a box grown by points in turn
unfoldable pub grown_by_all : Bounds → List Point → Bounds
grown_by_all b [] = b
grown_by_all b (p ∷ ps) = grown_by_all (grown_by b p) ps

-- the vertices behind the first, one by one
pub behind-first : (vs : List ℕ) → 0 < length vs → length (take (length vs - 1) (drop 1 vs)) + 1 ≡ length vs
behind-first vs l = rw (length-take, length-drop) (omega arith)

pub next-behind : (vs : List ℕ) (i : ℕ) → i + 1 < length vs → get_or (take (length vs - 1) (drop 1 vs)) i 0 ≡ get_or vs (i + 1) 0
next-behind vs i l = get_or-take (length vs - 1) (drop 1 vs) i 0 (omega arith) ∙ get_or-drop 1 vs i 0 ∙ ap (λ (k : ℕ). get_or vs k 0) (omega arith)

module _ (axes : ℕ) (coordinates : List Float) where
  -- the coordinates of the axes, and the points
  abbrev x : ℕ → Float
  x = coordinate axes coordinates 0

  abbrev y : ℕ → Float
  y = coordinate axes coordinates 1

  abbrev z : ℕ → Float
  z = coordinate axes coordinates 2

  abbrev points : List ℕ → List Point
  points vs = map (point_of axes coordinates) vs

  -- each end is the furthest of its own coordinate
  ends-grown : (b : Bounds) (vs : List ℕ)
      → ends_of (grown_by_all b (points vs)) ≡ furthest lt b.least_x (map x vs) ∷ furthest greater b.greatest_x (map x vs) ∷ furthest lt b.least_y (map y vs) ∷ furthest greater b.greatest_y (map y vs) ∷ furthest lt b.least_z (map z vs) ∷ furthest greater b.greatest_z (map z vs) ∷ []
  unfolding ends_of grown_by_all grown_by point_of furthest
  ends-grown b [] = refl
  ends-grown b (v ∷ vs) = ends-grown (grown_by b (point_of axes coordinates v)) vs

  -- the box that the vertices from place i on still make of b
  abbrev pub grown_from : Bounds → List ℕ → ℕ → Bounds
  grown_from b vs i = grown_by_all b (points (drop i vs))

  -- the next vertex grows it
  pub grown-next : (b : Bounds) (vs : List ℕ) (i : ℕ) → i < length vs → grown_from (grown_by b (point_of axes coordinates (get_or vs i 0))) vs (i + 1) ≡ grown_from b vs i
  unfolding grown_by_all
  grown-next b vs i h = rw (add-one, drop-cons vs i 0)

  -- where none is left, and all have made the box that is wanted, it has the ends that the rules give
  pub grown-last : (b : Bounds) (vs : List ℕ) (i : ℕ) → length vs ≤ i → grown_from b vs i ≡ grown_from (begins_as (point_of axes coordinates (get_or vs 0 0))) vs 1 → 0 < length vs → ends_of b ≡ box_over axes coordinates vs
  unfolding box_over ends_along begins_as point_of grown_by_all
  grown-last b [] i h e l = absurd (omega arith)
  grown-last b (v ∷ vs) i h e l =
      let none : b ≡ grown_from b (v ∷ vs) i = sym (ap (λ (us : List ℕ). grown_by_all b (points us)) (drop_of_length-le (v ∷ vs) h)) in
      ap ends_of (none ∙ e) ∙ ends-grown (begins_as (point_of axes coordinates v)) vs
