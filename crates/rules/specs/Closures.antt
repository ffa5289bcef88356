-- Document 02, "Phase closures": the call's refusals in their order, its number, and what it writes for edges and faces.
use Rattle.std.specs.Prelude.{Bool, cond, not, ◌&&◌, ◌||◌, List, [], ◌∷◌, map, ℕ, length, get_or, eqb, ℤ, pos, Float}
use Rattle.rules.specs.Lists.{all_of}
use Rattle.rules.specs.Book.{dim, count, key, held, rows_of, frame_right, rows_right}
use Rattle.rules.specs.Calls.{Rule, rule, first_broken}
use Rattle.rules.specs.Phases.{masked, counted, step_count, closure_of, turns}

-- ==== what is written
-- the count of the vertex that stands at place n of a row
unfoldable pub count_at : List ℤ → List ℕ → ℕ → ℤ
count_at counts row n = get_or counts (get_or row n 0) (pos 0)

-- an edge is masked if either end is
unfoldable pub edge_masked : List ℤ → List ℕ → Bool
edge_masked counts row = masked (count_at counts row 0) || masked (count_at counts row 1)

-- an edge's step as a float, 0.0 where masked
unfoldable pub edge_step : List ℤ → List ℕ → Float
edge_step counts row = cond (edge_masked counts row) (turns (pos 0)) (turns (step_count (count_at counts row 0) (count_at counts row 1)))

-- an edge's byte, 1 for masked, else 0
unfoldable pub edge_byte : List ℤ → List ℕ → ℕ
edge_byte counts row = cond (edge_masked counts row) 1 0

-- a face's closure, 2 where an end is masked
unfoldable pub face_closure : List ℤ → List ℕ → ℤ
face_closure counts row = closure_of (count_at counts row 0) (count_at counts row 1) (count_at counts row 2)

-- the steps, for every edge
unfoldable pub steps_of : List ℕ → List ℤ → List Float
steps_of ws counts = map (edge_step counts) (rows_of ws (key 1 0))

-- the bytes, for every edge
unfoldable pub bytes_of : List ℕ → List ℤ → List ℕ
bytes_of ws counts = map (edge_byte counts) (rows_of ws (key 1 0))

-- the closures, for every face
unfoldable pub closures_of : List ℕ → List ℤ → List ℤ
closures_of ws counts = map (face_closure counts) (rows_of ws (key 2 0))

-- ==== the call
-- the lists are as long as they have to be: counts N_0, closures N_2, steps and bytes N_1
unfoldable pub lengths_right : List ℕ → List ℤ → ℕ → ℕ → ℕ → Bool
lengths_right ws counts closures steps bytes =
    eqb (length counts) (count ws 0) && (eqb closures (count ws 2) && (eqb steps (count ws 1) && eqb bytes (count ws 1)))

-- its refusals, for lists of these lengths: 10, 11, 12 if D is 1, 15, 21, 22
unfoldable pub close_rules : List ℕ → List ℤ → ℕ → ℕ → ℕ → List (Rule ℕ)
close_rules ws counts closures steps bytes =
    rule (not (frame_right ws)) 10
    ∷ rule (not (rows_right ws)) 11
    ∷ rule (eqb (dim ws) 1) 12
    ∷ rule (not (held ws (key 1 0) && held ws (key 2 0))) 15
    ∷ rule (not (lengths_right ws counts closures steps bytes)) 21
    ∷ rule (not (all_of counted counts)) 22
    ∷ []

-- its number, 0 where accepted
unfoldable pub close_number : List ℕ → List ℤ → ℕ → ℕ → ℕ → ℕ
close_number ws counts closures steps bytes = first_broken (close_rules ws counts closures steps bytes) 0

-- whether it is accepted for these lists
unfoldable pub accepted_for : List ℕ → List ℤ → List ℤ → List Float → List ℕ → Bool
accepted_for ws counts closures steps bytes = eqb (close_number ws counts (length closures) (length steps) (length bytes)) 0

-- the closures after it
unfoldable pub closures_after : List ℕ → List ℤ → List ℤ → List Float → List ℕ → List ℤ
closures_after ws counts closures steps bytes = cond (accepted_for ws counts closures steps bytes) (closures_of ws counts) closures

-- the steps after it
unfoldable pub steps_after : List ℕ → List ℤ → List ℤ → List Float → List ℕ → List Float
steps_after ws counts closures steps bytes = cond (accepted_for ws counts closures steps bytes) (steps_of ws counts) steps

-- the bytes after it
unfoldable pub bytes_after : List ℕ → List ℤ → List ℤ → List Float → List ℕ → List ℕ
bytes_after ws counts closures steps bytes = cond (accepted_for ws counts closures steps bytes) (bytes_of ws counts) bytes
