-- Document 02, "A plain engine beside it": is (e, j) incident to (d, i), worked out from the cells' vertex sets, with their own numbering of entities. Behind 10 and 11 it goes by no relation but D→0, and by no count but D, N_0 and N_D.
use Rattle.std.specs.Prelude.{Bool, false, cond, not, ◌||◌, List, [], ◌∷◌, ℕ, eqb, ltb, leb}
use Rattle.rules.specs.Book.{dim, count, key, rows_of, frame_right, rows_right}
use Rattle.rules.specs.Calls.{Rule, rule, first_broken}
use Rattle.rules.specs.Truth.{Mesh, number, incident}

-- the mesh of the book's cells: D and N_0 from word 0, the cells from D→0
unfoldable pub mesh_in : List ℕ → Mesh
mesh_in ws = record { dims = dim ws; vertices = count ws 0; cells = rows_of ws (key (dim ws) 0) }

-- Plain's refusals: 10, 11, 12, then 17 for i and 19 for j, by its own counts
unfoldable pub plain_rules : List ℕ → ℕ → ℕ → ℕ → ℕ → List (Rule ℕ)
plain_rules ws d e i j =
    rule (not (frame_right ws)) 10
    ∷ rule (not (rows_right ws)) 11
    ∷ rule (ltb (dim ws) d || ltb (dim ws) e) 12
    ∷ rule (leb (number (mesh_in ws) d) i) 17
    ∷ rule (leb (number (mesh_in ws) e) j) 19
    ∷ []

-- Plain's number, 0 where accepted
unfoldable pub plain_number : List ℕ → ℕ → ℕ → ℕ → ℕ → ℕ
plain_number ws d e i j = first_broken (plain_rules ws d e i j) 0

-- whether (e, j) is incident to (d, i), no on a refusal
unfoldable pub plain_yes : List ℕ → ℕ → ℕ → ℕ → ℕ → Bool
plain_yes ws d e i j = cond (eqb (plain_number ws d e i j) 0) (incident (mesh_in ws) d e i j) false
