-- Document 02, "Frames for the viewer": what lies in an upright box, and which box contains which; what is promised of a box that is given on any book, and on a book as in demand 3.
use Rattle.std.specs.Prelude.{◌≡◌, Bool, true, cond, ◌&&◌, List, ℕ, ◌+◌, ◌*◌, ◌<◌, length, get_or, ltb, eqb, Float}
use Rattle.std.specs.Float.Ieee.{lt, le}
use Rattle.std.specs.Float.Ieee.Scale.{finite}
use Rattle.rules.specs.Lists.{up_to, all_of, has}
use Rattle.rules.specs.Book.{dim, key, held, count, row_of}
use Rattle.rules.specs.Calls.{used_vertices}
use Rattle.rules.specs.Truth.{Mesh, incident}
use Rattle.rules.specs.Sequence.{Reached}
use Rattle.rules.specs.Boxes.{float_zero, coordinate, box_over, vertices_of, entity_box, whole_box, box_number, whole_number, some_box}

-- ==== boxes
-- the least end of a box along axis k
unfoldable pub least : List Float → ℕ → Float
least box k = get_or box (2 * k) float_zero

-- the greatest end along axis k
unfoldable pub greatest : List Float → ℕ → Float
greatest box k = get_or box (2 * k + 1) float_zero

-- vertex v lies in the box: along each of the three axes between the ends, or at one
unfoldable pub lies_in : ℕ → List Float → List Float → ℕ → Bool
lies_in axes coordinates box v = all_of (λ k. le (least box k) (coordinate axes coordinates k v) && le (coordinate axes coordinates k v) (greatest box k)) (up_to 3)

-- a box contains another: along each of the three axes both ends of the other lie between its own, or at one
unfoldable pub contains : List Float → List Float → Bool
contains outer inner = all_of (λ k. le (least outer k) (least inner k) && le (greatest inner k) (greatest outer k)) (up_to 3)

-- both ends along axis k are the coordinate of some of the vertices, bit for bit
pub record Attained (axes : ℕ) (coordinates : List Float) (vertices : List ℕ) (box : List Float) (k : ℕ) : Type 0 where
  pub low : ℕ
  pub low_among : has low vertices ≡ true
  pub low_end : coordinate axes coordinates k low ≡ least box k
  pub high : ℕ
  pub high_among : has high vertices ≡ true
  pub high_end : coordinate axes coordinates k high ≡ greatest box k

-- both ends along axis k are those of the first vertex that has them, bit for bit: each vertex before it lies strictly further in
pub record AttainedFirst (axes : ℕ) (coordinates : List Float) (vertices : List ℕ) (box : List Float) (k : ℕ) : Type 0 where
  pub low : ℕ
  pub low_there : low < length vertices
  pub low_end : coordinate axes coordinates k (get_or vertices low 0) ≡ least box k
  pub low_before : (q : ℕ) → q < low → lt (least box k) (coordinate axes coordinates k (get_or vertices q 0)) ≡ true
  pub high : ℕ
  pub high_there : high < length vertices
  pub high_end : coordinate axes coordinates k (get_or vertices high 0) ≡ greatest box k
  pub high_before : (q : ℕ) → q < high → lt (coordinate axes coordinates k (get_or vertices q 0)) (greatest box k) ≡ true

-- of equal coordinates, of the two zeros too, the first vertex's stays, whatever the vertices
abbrev pub FirstStays : Type 0
FirstStays = (axes : ℕ) (coordinates : List Float) (vertices : List ℕ) → all_of finite coordinates ≡ true → 0 < length vertices
    → (k : ℕ) → k < 3 → AttainedFirst axes coordinates vertices (box_over axes coordinates vertices) k

-- with two axes the third's ends are 0.0, bit for bit, whatever the vertices
abbrev pub FlatThird : Type 0
FlatThird = (coordinates : List Float) (vertices : List ℕ)
    → (least (box_over 2 coordinates vertices) 2 ≡ float_zero) × (greatest (box_over 2 coordinates vertices) 2 ≡ float_zero)

-- ==== on any book, whoever wrote it
-- an entity's box is there: it has six ends
abbrev pub BoxThere : Type 0
BoxThere = (ws : List ℕ) (coordinates : List Float) (axes d i : ℕ) → box_number ws coordinates axes d i ≡ 0 → length (entity_box ws coordinates axes d i) ≡ 6

-- every vertex of the entity lies in its box
abbrev pub EveryVertex : Type 0
EveryVertex = (ws : List ℕ) (coordinates : List Float) (axes d i : ℕ) → box_number ws coordinates axes d i ≡ 0
    → (v : ℕ) → has v (vertices_of ws d i) ≡ true → lies_in axes coordinates (entity_box ws coordinates axes d i) v ≡ true

-- each end of it is attained by a vertex of the entity
abbrev pub EachEnd : Type 0
EachEnd = (ws : List ℕ) (coordinates : List Float) (axes d i : ℕ) → box_number ws coordinates axes d i ≡ 0
    → (k : ℕ) → k < 3 → Attained axes coordinates (vertices_of ws d i) (entity_box ws coordinates axes d i) k

-- the whole mesh has no box exactly where no vertex lies in a cell, which is where there is no cell; else its box has six ends
abbrev pub WholeThere : Type 0
WholeThere = (ws : List ℕ) (coordinates : List Float) (axes : ℕ) → whole_number ws coordinates axes ≡ 0
    → (length (whole_box ws coordinates axes) ≡ cond (eqb (length (used_vertices ws)) 0) 0 6)
    × (some_box (whole_box ws coordinates axes) ≡ ltb 0 (count ws (dim ws)))

-- every vertex that lies in a cell lies in the whole mesh's box
abbrev pub EveryUsed : Type 0
EveryUsed = (ws : List ℕ) (coordinates : List Float) (axes : ℕ) → whole_number ws coordinates axes ≡ 0
    → (v : ℕ) → has v (used_vertices ws) ≡ true → lies_in axes coordinates (whole_box ws coordinates axes) v ≡ true

-- each end of it, where there is one, is attained by a vertex that lies in a cell
abbrev pub EachWholeEnd : Type 0
EachWholeEnd = (ws : List ℕ) (coordinates : List Float) (axes : ℕ) → whole_number ws coordinates axes ≡ 0 → some_box (whole_box ws coordinates axes) ≡ true
    → (k : ℕ) → k < 3 → Attained axes coordinates (used_vertices ws) (whole_box ws coordinates axes) k

-- where a cell's box is given the whole mesh's is too, and contains it
abbrev pub CellsWithin : Type 0
CellsWithin = (ws : List ℕ) (coordinates : List Float) (axes i : ℕ) → box_number ws coordinates axes (dim ws) i ≡ 0
    → (whole_number ws coordinates axes ≡ 0) × (some_box (whole_box ws coordinates axes) ≡ true)
    × (contains (whole_box ws coordinates axes) (entity_box ws coordinates axes (dim ws) i) ≡ true)

-- ==== on a book as in demand 3
-- an entity's box contains the boxes of the entities of lower dimension that are incident to it
abbrev pub BoxesNest : Type 0
BoxesNest = (m : Mesh) (ws : List ℕ) → Reached m ws → (coordinates : List Float) (axes d e i j : ℕ) → e < d
    → box_number ws coordinates axes d i ≡ 0 → box_number ws coordinates axes e j ≡ 0
    → incident m d e i j ≡ true → contains (entity_box ws coordinates axes d i) (entity_box ws coordinates axes e j) ≡ true

-- the same in the words of the book, where d→e is held
abbrev pub ListedNest : Type 0
ListedNest = (m : Mesh) (ws : List ℕ) → Reached m ws → (coordinates : List Float) (axes d e i j : ℕ) → e < d → held ws (key d e) ≡ true
    → box_number ws coordinates axes d i ≡ 0 → box_number ws coordinates axes e j ≡ 0
    → has j (row_of ws (key d e) i) ≡ true → contains (entity_box ws coordinates axes d i) (entity_box ws coordinates axes e j) ≡ true

-- a face's box contains its edges' boxes
abbrev pub FaceBoxes : Type 0
FaceBoxes = (m : Mesh) (ws : List ℕ) → Reached m ws → (coordinates : List Float) (axes i j : ℕ) → held ws (key 2 1) ≡ true
    → box_number ws coordinates axes 2 i ≡ 0 → box_number ws coordinates axes 1 j ≡ 0
    → has j (row_of ws (key 2 1) i) ≡ true → contains (entity_box ws coordinates axes 2 i) (entity_box ws coordinates axes 1 j) ≡ true

-- the whole mesh's box contains every edge's, every face's and every cell's box
abbrev pub AllWithin : Type 0
AllWithin = (m : Mesh) (ws : List ℕ) → Reached m ws → (coordinates : List Float) (axes d i : ℕ) → 0 < d → box_number ws coordinates axes d i ≡ 0
    → (whole_number ws coordinates axes ≡ 0) × (some_box (whole_box ws coordinates axes) ≡ true)
    × (contains (whole_box ws coordinates axes) (entity_box ws coordinates axes d i) ≡ true)
