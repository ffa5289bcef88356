-- Boxes on a book as in demand 3: an entity's box contains those of the lower entities incident to it, and the whole mesh's box contains them all.
use mathlib.Core.Path.{◌≡◌, sym, ap, ◌∙◌}
use mathlib.Core.Bool.{true}
use mathlib.Core.List.{List, Memᴰ as In}
use Prim.Native.Nat.{ℕ, ◌<◌, ◌≤◌}
use native.Mathlib.Omega.{arith}
use lib.ListN.{length}
use lib.Ieee.{Float}
use Rattle.rules.specs.Lists.{up_to, any_of, has, members_below}
use Rattle.rules.specs.Calls.{used_vertices}
use Rattle.rules.specs.Boxes.{vertices_of, entity_box, whole_box}
use Rattle.rules.specs.Truth.{Mesh, number, entity, true_row, used_in}
use Rattle.rules.proofs.Tests.{any-of, has_of, inside-at}
use Rattle.rules.proofs.Keep.{keep-of, up_to-of}
use Rattle.rules.proofs.Incidence.{incident-down}
use Rattle.rules.proofs.Accepted.{Boxes, boxes}
use Rattle.rules.proofs.TrueRows.{has-incident}
use Rattle.rules.proofs.TrueFacts.{rows-valid}
use Rattle.promises.specs.Boxes.{BoxesNest, ListedNest, FaceBoxes, AllWithin}
use Rattle.promises.proofs.Kept.{Kept, kept-dim, reached-kept}
use Rattle.promises.proofs.DemandThree.{first_count, row-true}
use Rattle.promises.proofs.Euler.{used-true}
use Rattle.promises.proofs.FaceEdges.{in_cell}
use Rattle.promises.proofs.BoxOver.{some-within, box-within}
use Rattle.promises.proofs.Boxes.{vertices-number, whole-given}
use Rattle.promises.proofs.EntityVertices.{entity-vertices}

module _ (m : Mesh) (ws : List ℕ) (k : Kept m ws) where
  -- an accepted entity of dimension over 0 is one of the mesh's
  within : (coordinates : List Float) (axes d i : ℕ) → 0 < d → Boxes ws coordinates axes d i → (d ≤ m.dims) × (i < number m d)
  within coordinates axes d i p a = (rw (kept-dim m ws k) at a.first, rw (first_count m ws k d 0 (omega arith) (a.there p)) at a.below)

  -- and its vertices are the mesh's
  true-vertices : (coordinates : List Float) (axes d i : ℕ) → Boxes ws coordinates axes d i → vertices_of ws d i ≡ entity m d i
  true-vertices coordinates axes d i a = entity-vertices m ws k d i a.there a.below

  -- the vertices of an edge, a face or a cell lie in a cell
  entity-used : (d i v : ℕ) → 0 < d → d ≤ m.dims → i < number m d → In v (entity m d i) → In v (used_vertices ws)
  unfolding used_in members_below
  entity-used d i v p h l j =
      let (c, q, w) = in_cell m k.formed d i p h l in
      let u = w v j in
      rw (used-true m ws k) (keep-of (λ x. any_of (has x) m.cells) (up_to m.vertices) (up_to-of v m.vertices (k.formed.below c q v u)) (any-of (has v) q (has_of u)))

pub boxes-nest : BoxesNest
unfolding entity_box
boxes-nest m ws r coordinates axes d e i j l y z t =
    let k = reached-kept m ws r in
    let a = boxes ws coordinates axes d i y in
    let b = boxes ws coordinates axes e j z in
    let w = inside-at (entity m e j) (entity m d i) (sym (incident-down m d e i j l) ∙ t) in
    box-within axes coordinates a.lent.numbers (vertices_of ws d i) (vertices_of ws e j) (omega (arith, vertices-number ws coordinates axes e j b))
    (rw (true-vertices m ws k coordinates axes d i a, true-vertices m ws k coordinates axes e j b) w)

pub listed-nest : ListedNest
listed-nest m ws r coordinates axes d e i j l h y z t =
    let k = reached-kept m ws r in
    let (g, n) = within m ws k coordinates axes d i (omega arith) (boxes ws coordinates axes d i y) in
    let u : has j (true_row m d e i) ≡ true = sym (ap (has j) (row-true m ws k d e (omega arith) h i n)) ∙ t in
    boxes-nest m ws r coordinates axes d e i j l y z (sym (has-incident m d e i j (rows-valid m d e i j u)) ∙ u)

pub face-boxes : FaceBoxes
face-boxes m ws r coordinates axes i j = listed-nest m ws r coordinates axes 2 1 i j (omega arith)

pub all-within : AllWithin
unfolding whole_box entity_box
all-within m ws r coordinates axes d i p z =
    let k = reached-kept m ws r in
    let a = boxes ws coordinates axes d i z in
    let (h, l) = within m ws k coordinates axes d i p a in
    let n : 0 < length (vertices_of ws d i) = omega (arith, vertices-number ws coordinates axes d i a) in
    let w : (v : ℕ) → In v (vertices_of ws d i) → In v (used_vertices ws) = λ v j. entity-used m ws k d i v p h l (rw (true-vertices m ws k coordinates axes d i a) at j) in (
      whole-given ws coordinates axes d i a,
      some-within axes coordinates (used_vertices ws) (vertices_of ws d i) n w,
      box-within axes coordinates a.lent.numbers (used_vertices ws) (vertices_of ws d i) n w,
    )
