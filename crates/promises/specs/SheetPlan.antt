-- The sheet profile's answer, to plan by: from the mesh, the set of relations held and the lengths of the lent lists alone.
use Rattle.std.specs.Prelude.{not, ◌&&◌, ◌||◌, List, [], ◌∷◌, ℕ, ◌*◌, length, eqb, ltb}
use Rattle.rules.specs.Lists.{up_to, any_of, keep, has}
use Rattle.rules.specs.File.{length_of}
use Rattle.rules.specs.Book.{key, named}
use Rattle.rules.specs.Calls.{first_broken}
use Rattle.rules.specs.Truth.{Mesh, number, entity, true_row, used_in}
use Rattle.rules.specs.Sheet.{carried, not_sheet}

-- the mesh's edges in exactly one cell, in edge order
unfoldable pub rim_of : Mesh → List ℕ
rim_of m = keep (λ k. eqb (length (true_row m 1 2 k)) 1) (up_to (number m 1))

-- their vertices, ascending
unfoldable pub rim_points : Mesh → List ℕ
rim_points m = keep (λ v. any_of (λ k. has v (entity m 1 k)) (rim_of m)) (up_to m.vertices)

-- the answer for lent lists of these lengths: 28 with 1, 15, 28 with 2 or 3, 29, 18, 21, else 0
unfoldable pub sheet_plan : Mesh → ℕ → ℕ → ℕ → ℕ → ℕ → List ℕ
sheet_plan m mask acrosses bytes vertices edges =
    first_broken
    (carried (not (eqb m.dims 2)) (28 ∷ 1 ∷ [])
    ∷ carried (not (named mask (key 1 0) && named mask (key 2 1) && named mask (key 1 2))) (15 ∷ [])
    ∷ not_sheet 2 (λ v. not (has v (used_in m))) m.vertices
    ∷ not_sheet 3 (λ k. not (eqb (length (true_row m 1 2 k)) 1 || eqb (length (true_row m 1 2 k)) 2)) (number m 1)
    ∷ carried (ltb 4096 (length (rim_of m))) (29 ∷ [])
    ∷ carried (ltb bytes (length_of 1 (length (rim_of m)))) (18 ∷ [])
    ∷ carried (not (eqb acrosses (3 * length m.cells)) || ltb vertices (length (rim_points m)) || ltb edges (length (rim_of m))) (21 ∷ [])
    ∷ [])
    (0 ∷ [])
