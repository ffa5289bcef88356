-- Document 02, "Frames for the viewer": the upright box of an entity and of the whole mesh, from lent coordinates; the calls' refusals in their order, and their numbers.
use Rattle.std.specs.Prelude.{Bool, false, cond, not, ◌&&◌, ◌||◌, List, [], ◌∷◌, ◌++◌, map, ℕ, ◌+◌, ◌*◌, length, get_or, eqb, ltb, leb, pos, Float}
use Rattle.std.specs.Float.{fin}
use Rattle.std.specs.Float.Ieee.{lt}
use Rattle.std.specs.Float.Ieee.Scale.{finite}
use Rattle.rules.specs.Lists.{all_of}
use Rattle.rules.specs.Book.{dim, count, key, held, row_of, frame_right, rows_right}
use Rattle.rules.specs.Calls.{Rule, rule, first_broken, used_vertices}

-- ==== ends
-- strictly greater
unfoldable pub greater : Float → Float → Bool
greater x y = lt y x

-- an end after one value more: replaced only by one that is strictly beyond it
unfoldable pub replaced : (Float → Float → Bool) → Float → Float → Float
replaced beyond end x = cond (beyond x end) x end

-- an end that begins as a first value, after the others in their order: the least where `beyond` is strictly smaller, the greatest where it is strictly greater
unfoldable pub furthest : (Float → Float → Bool) → Float → List Float → Float
furthest beyond end [] = end
furthest beyond end (x ∷ xs) = furthest beyond (replaced beyond end x) xs

-- ==== boxes
-- 0.0
unfoldable pub float_zero : Float
float_zero = fin false 0 (pos 0)

-- coordinate k of vertex v, from coordinates lent vertex by vertex; with two axes the third is 0.0
unfoldable pub coordinate : ℕ → List Float → ℕ → ℕ → Float
coordinate axes coordinates k v = cond (ltb k axes) (get_or coordinates (axes * v + k) float_zero) float_zero

-- the least and the greatest of coordinate k over a first vertex and the others, in their order
unfoldable pub ends_along : ℕ → List Float → ℕ → List ℕ → ℕ → List Float
ends_along axes coordinates v vs k =
    let at = coordinate axes coordinates k in
    furthest lt (at v) (map at vs) ∷ furthest greater (at v) (map at vs) ∷ []

-- the box of vertices in their order: least x, greatest x, least y, greatest y, least z, greatest z; no box where there are none
unfoldable pub box_over : ℕ → List Float → List ℕ → List Float
box_over axes coordinates [] = []
box_over axes coordinates (v ∷ vs) =
    ends_along axes coordinates v vs 0 ++ (ends_along axes coordinates v vs 1 ++ ends_along axes coordinates v vs 2)

-- the vertices of the entity (d, i), ascending; a vertex is its own
unfoldable pub vertices_of : List ℕ → ℕ → ℕ → List ℕ
vertices_of ws d i = cond (eqb d 0) (i ∷ []) (row_of ws (key d 0) i)

-- the box of the entity (d, i)
unfoldable pub entity_box : List ℕ → List Float → ℕ → ℕ → ℕ → List Float
entity_box ws coordinates axes d i = box_over axes coordinates (vertices_of ws d i)

-- the box of the whole mesh: of the vertices in some cell; no box where there are none
unfoldable pub whole_box : List ℕ → List Float → ℕ → List Float
whole_box ws coordinates axes = box_over axes coordinates (used_vertices ws)

-- ==== the calls
-- the refusals of lent coordinates: 26 for an axis count other than 2 or 3, 21 for a list not axes times N_0 long, 27 for an infinite or not-a-number coordinate anywhere in it
unfoldable pub coordinate_rules : List ℕ → List Float → ℕ → List (Rule ℕ)
coordinate_rules ws coordinates axes =
    rule (not (eqb axes 2 || eqb axes 3)) 26
    ∷ rule (not (eqb (length coordinates) (axes * count ws 0))) 21
    ∷ rule (not (all_of finite coordinates)) 27
    ∷ []

-- the refusals of an entity's box: 10, 11, 12, 15 if d→0 is not held for d > 0, 17, then those of the coordinates
unfoldable pub box_rules : List ℕ → List Float → ℕ → ℕ → ℕ → List (Rule ℕ)
box_rules ws coordinates axes d i =
    rule (not (frame_right ws)) 10
    ∷ rule (not (rows_right ws)) 11
    ∷ rule (ltb (dim ws) d) 12
    ∷ rule (ltb 0 d && not (held ws (key d 0))) 15
    ∷ rule (leb (count ws d) i) 17
    ∷ coordinate_rules ws coordinates axes

-- its number, 0 where accepted
unfoldable pub box_number : List ℕ → List Float → ℕ → ℕ → ℕ → ℕ
box_number ws coordinates axes d i = first_broken (box_rules ws coordinates axes d i) 0

-- what it gives: the entity's box, nothing on a refusal
unfoldable pub box_given : List ℕ → List Float → ℕ → ℕ → ℕ → List Float
box_given ws coordinates axes d i = cond (eqb (box_number ws coordinates axes d i) 0) (entity_box ws coordinates axes d i) []

-- the refusals of the whole mesh's box: 10, 11, then those of the coordinates
unfoldable pub whole_rules : List ℕ → List Float → ℕ → List (Rule ℕ)
whole_rules ws coordinates axes =
    rule (not (frame_right ws)) 10
    ∷ rule (not (rows_right ws)) 11
    ∷ coordinate_rules ws coordinates axes

-- its number, 0 where accepted
unfoldable pub whole_number : List ℕ → List Float → ℕ → ℕ
whole_number ws coordinates axes = first_broken (whole_rules ws coordinates axes) 0

-- what it gives: the whole mesh's box, nothing on a refusal
unfoldable pub whole_given : List ℕ → List Float → ℕ → List Float
whole_given ws coordinates axes = cond (eqb (whole_number ws coordinates axes) 0) (whole_box ws coordinates axes) []

-- whether a box is given
unfoldable pub some_box : List Float → Bool
some_box box = ltb 0 (length box)

-- what a lent box holds afterwards: the box that is given, else what it held
unfoldable pub box_after : List Float → List Float → List Float
box_after given before = cond (some_box given) given before
