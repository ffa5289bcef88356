-- What the boxes of a right book are over: the vertices of an entity, of which there is at least one, and the vertices in some cell.
use mathlib.Core.Path.{◌≡◌, refl}
use mathlib.Core.Bool.{true, false, not, ◌&&◌}
use mathlib.Core.List.{List, [], ◌∷◌}
use Prim.Native.Nat.{ℕ, ◌<◌, ◌≤◌}
use native.Mathlib.Omega.{arith}
use lib.ListN.{length}
use lib.Dec.{ltb}
use lib.Ieee.{Float}
use borrow.Author.Tests.{ne_eqb, lt-ltb, not-false}
use Rattle.rules.specs.Book.{key, held, row_of}
use Rattle.rules.specs.Calls.{used_vertices}
use Rattle.rules.specs.Boxes.{furthest, ends_along, box_over, vertices_of, entity_box, whole_box}
use Rattle.rules.proofs.FrameRule.{framed}
use Rattle.rules.proofs.RowRule.{entity-vertices}
use Rattle.boxes.specs.Growing.{point_of, begins_as, ends_of}
use Rattle.boxing.specs.Ready.{EntityReady}

module _ (ws : List ℕ) (d : ℕ) where
  -- d→0 is held where it is needed and not missing
  pub not-missing : (ltb 0 d && not (held ws (key d 0))) ≡ false → 0 < d → held ws (key d 0) ≡ true
  not-missing h l = not-false (held ws (key d 0)) (rw (lt-ltb 0 d l) at h)

  module _ (axes i : ℕ) (e : EntityReady ws axes d i) where
    -- no entity is above three dimensions
    pub dimension-low : d ≤ 3
    dimension-low = omega (arith, e.low, (framed ws e.mesh.frame).high)

    -- its row of d→0 has a vertex
    pub some-vertex : 0 < d → 0 < length (row_of ws (key d 0) i)
    some-vertex l = omega (arith, entity-vertices ws (framed ws e.mesh.frame) e.mesh.rows d l (e.vertices l) i e.there)

-- the box of a vertex is its point
pub vertex-box : (ws : List ℕ) (coordinates : List Float) (axes i : ℕ) → ends_of (begins_as (point_of axes coordinates i)) ≡ entity_box ws coordinates axes 0 i
unfolding ends_of begins_as point_of entity_box vertices_of box_over ends_along furthest
vertex-box ws coordinates axes i = refl

-- the box of any other entity is over its row of d→0
pub row-box : (ws : List ℕ) (coordinates : List Float) (axes d i : ℕ) → (d ≡ 0 → ⊥) → box_over axes coordinates (row_of ws (key d 0) i) ≡ entity_box ws coordinates axes d i
unfolding entity_box vertices_of
row-box ws coordinates axes d i n = rw (ne_eqb d 0 n)

-- where no vertex lies in some cell there is no box
pub no-box : (ws : List ℕ) (coordinates : List Float) (axes : ℕ) → length (used_vertices ws) ≡ 0 → [] ≡ whole_box ws coordinates axes
unfolding whole_box box_over
no-box ws coordinates axes e = go (used_vertices ws) e
  where
    go : (vs : List ℕ) → length vs ≡ 0 → [] ≡ box_over axes coordinates vs
    go [] z = refl
    go (v ∷ vs) z = absurd (omega arith)
