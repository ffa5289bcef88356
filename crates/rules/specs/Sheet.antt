-- Document 02, "The sheet profile": when a book is a sheet, the cell across each edge of each cell, and the rim as a day file of its own; the call's refusals in their order, and its answer.
use Rattle.std.specs.Prelude.{◌≡◌, Bool, true, false, cond, not, ◌&&◌, ◌||◌, List, [], ◌∷◌, map, ℕ, ◌*◌, length, get_or, eqb, ltb}
use Rattle.rules.specs.Lists.{up_to, any_of, all_of, keep, first_at, has, joined}
use Rattle.rules.specs.File.{file_bytes}
use Rattle.rules.specs.Book.{dim, count, key, held, row_of, frame_right, rows_right}
use Rattle.rules.specs.Calls.{Rule, first_broken, used_vertices, at_front}
use Rattle.rules.specs.Truth.{Mesh, first_word}

-- ==== what the book stores
-- the edges of cell c: its row of 2→1
unfoldable pub edges_of : List ℕ → ℕ → List ℕ
edges_of ws c = row_of ws (key 2 1) c

-- the cells at edge k: its row of 1→2
unfoldable pub cells_at : List ℕ → ℕ → List ℕ
cells_at ws k = row_of ws (key 1 2) k

-- the ends of edge k: its row of 1→0
unfoldable pub ends_at : List ℕ → ℕ → List ℕ
ends_at ws k = row_of ws (key 1 0) k

-- ==== a sheet: D is 2, each vertex is in some cell, and each edge is in one or two cells
-- vertex v is in no cell
unfoldable pub unused : List ℕ → ℕ → Bool
unused ws v = not (has v (used_vertices ws))

-- the row of edge k in 1→2 has not one or two cells
unfoldable pub branched : List ℕ → ℕ → Bool
branched ws k = not (eqb (length (cells_at ws k)) 1 || eqb (length (cells_at ws k)) 2)

-- the row of cell c in 2→1 is not three edges that list it in 1→2
unfoldable pub unmatched : List ℕ → ℕ → Bool
unmatched ws c = not (eqb (length (edges_of ws c)) 3 && all_of (λ k. has c (cells_at ws k)) (edges_of ws c))

-- a right book with D = 2 that holds 1→0, 2→1 and 1→2: one that 10, 11, 28 with 1 and 15 let pass
pub record Flat (ws : List ℕ) : Type 0 where
  pub frame : frame_right ws ≡ true
  pub rows : rows_right ws ≡ true
  pub two : dim ws ≡ 2
  pub ends : held ws (key 1 0) ≡ true
  pub edges : held ws (key 2 1) ≡ true
  pub cells : held ws (key 1 2) ≡ true

-- and is a sheet: 28 with 2, 3 and 4 let it pass too
pub record Sheet (ws : List ℕ) : Type 0 where
  pub flat : Flat ws
  pub used : any_of (unused ws) (up_to (count ws 0)) ≡ false
  pub plain : any_of (branched ws) (up_to (count ws 1)) ≡ false
  pub matched : any_of (unmatched ws) (up_to (count ws 2)) ≡ false

-- ==== the cells across
-- the cell across edge k from cell c: the first other one in the row of k, or 65,535 for none
unfoldable pub across_at : List ℕ → ℕ → ℕ → ℕ
across_at ws c k = get_or (keep (λ j. not (eqb j c)) (cells_at ws k)) 0 65535

-- for each cell's edges, in row order, the cell across it
unfoldable pub across : List ℕ → List ℕ
across ws = joined (map (λ c. map (across_at ws c) (edges_of ws c)) (up_to (count ws 2)))

-- ==== the rim
-- edge k is in exactly one cell
unfoldable pub at_rim : List ℕ → ℕ → Bool
at_rim ws k = eqb (length (cells_at ws k)) 1

-- the edges in exactly one cell, in edge order
unfoldable pub rim_edges_of : List ℕ → List ℕ
rim_edges_of ws = keep (at_rim ws) (up_to (count ws 1))

-- their vertices, ascending
unfoldable pub rim_vertices_of : List ℕ → List ℕ
rim_vertices_of ws = keep (λ v. any_of (λ k. has v (ends_at ws k)) (rim_edges_of ws)) (up_to (count ws 0))

-- the new number of vertex v: its place among them
unfoldable pub rim_number : List ℕ → ℕ → ℕ
rim_number ws v = first_at (eqb v) (rim_vertices_of ws)

-- the rim as a mesh with D = 1: a cell for each of these edges, its ends by their new numbers
unfoldable pub rim_mesh : List ℕ → Mesh
rim_mesh ws = record {
  dims = 1;
  vertices = length (rim_vertices_of ws);
  cells = map (λ k. map (rim_number ws) (ends_at ws k)) (rim_edges_of ws);
}

-- the rim as a day file
unfoldable pub rim_file : List ℕ → List ℕ
rim_file ws = file_bytes 1 (length (rim_edges_of ws)) (first_word (rim_mesh ws)) (joined (rim_mesh ws).cells)

-- its length
unfoldable pub rim_length_of : List ℕ → ℕ
rim_length_of ws = length (rim_file ws)

-- ==== the call
-- a line of the table, from its test, and its number with what it carries
abbrev pub carried : Bool → List ℕ → Rule (List ℕ)
carried b a = record { broken = b; answer = a }

-- 28 where some number below n passes the test, with why and the lowest such number
abbrev pub not_sheet : ℕ → (ℕ → Bool) → ℕ → Rule (List ℕ)
not_sheet why off n = carried (any_of off (up_to n)) (28 ∷ why ∷ first_at off (up_to n) ∷ [])

-- its refusals, for lent lists of these lengths: 10, 11, 28 with 1 if D is not 2, 15, 28 with 2, 3 or 4 and the lowest vertex, edge or cell, 29, 18, 21
unfoldable pub sheet_rules : List ℕ → ℕ → ℕ → ℕ → ℕ → List (Rule (List ℕ))
sheet_rules ws acrosses bytes vertices edges =
    carried (not (frame_right ws)) (10 ∷ [])
    ∷ carried (not (rows_right ws)) (11 ∷ [])
    ∷ carried (not (eqb (dim ws) 2)) (28 ∷ 1 ∷ [])
    ∷ carried (not (held ws (key 1 0) && held ws (key 2 1) && held ws (key 1 2))) (15 ∷ [])
    ∷ not_sheet 2 (unused ws) (count ws 0)
    ∷ not_sheet 3 (branched ws) (count ws 1)
    ∷ not_sheet 4 (unmatched ws) (count ws 2)
    ∷ carried (ltb 4096 (length (rim_edges_of ws))) (29 ∷ [])
    ∷ carried (ltb bytes (rim_length_of ws)) (18 ∷ [])
    ∷ carried (not (eqb acrosses (3 * count ws 2)) || ltb vertices (length (rim_vertices_of ws)) || ltb edges (length (rim_edges_of ws))) (21 ∷ [])
    ∷ []

-- its answer: the number with what it carries, 0 alone where accepted
unfoldable pub sheet_answer : List ℕ → ℕ → ℕ → ℕ → ℕ → List ℕ
sheet_answer ws acrosses bytes vertices edges = first_broken (sheet_rules ws acrosses bytes vertices edges) (0 ∷ [])

-- its number
unfoldable pub sheet_number : List ℕ → ℕ → ℕ → ℕ → ℕ → ℕ
sheet_number ws acrosses bytes vertices edges = get_or (sheet_answer ws acrosses bytes vertices edges) 0 0

-- what it gives where accepted: the length of the rim's file, and the numbers of its vertices and edges; nothing on a refusal
unfoldable pub sheet_given : List ℕ → ℕ → ℕ → ℕ → ℕ → List ℕ
sheet_given ws acrosses bytes vertices edges =
    cond (eqb (sheet_number ws acrosses bytes vertices edges) 0) (rim_length_of ws ∷ length (rim_vertices_of ws) ∷ length (rim_edges_of ws) ∷ []) []

-- ==== lent places after the call: xs for the cells across, bs for the rim's file, vs and es for the maps back to the old vertices and edges
-- its number for these
unfoldable pub sheet_for : List ℕ → List ℕ → List ℕ → List ℕ → List ℕ → ℕ
sheet_for ws xs bs vs es = sheet_number ws (length xs) (length bs) (length vs) (length es)

-- the cells across
unfoldable pub sheet_across : List ℕ → List ℕ → List ℕ → List ℕ → List ℕ → List ℕ
sheet_across ws xs bs vs es = at_front (sheet_for ws xs bs vs es) (across ws) xs

-- the rim's file, and later bytes as they were
unfoldable pub sheet_bytes : List ℕ → List ℕ → List ℕ → List ℕ → List ℕ → List ℕ
sheet_bytes ws xs bs vs es = at_front (sheet_for ws xs bs vs es) (rim_file ws) bs

-- the map back to the old vertices, and later places as they were
unfoldable pub sheet_vertices : List ℕ → List ℕ → List ℕ → List ℕ → List ℕ → List ℕ
sheet_vertices ws xs bs vs es = at_front (sheet_for ws xs bs vs es) (rim_vertices_of ws) vs

-- the map back to the old edges, and later places as they were
unfoldable pub sheet_edges : List ℕ → List ℕ → List ℕ → List ℕ → List ℕ → List ℕ
sheet_edges ws xs bs vs es = at_front (sheet_for ws xs bs vs es) (rim_edges_of ws) es
