-- Document 02, "The sheet profile": what is promised of the cells across and of the rim, as an accepted call leaves them in the lent lists.
use Rattle.std.specs.Prelude.{◌≡◌, true, List, [], ◌∷◌, ◌++◌, map, ℕ, ◌+◌, ◌*◌, ◌%◌, ◌≤◌, ◌<◌, length, get_or, take, drop}
use Rattle.rules.specs.Lists.{keep, has}
use Rattle.rules.specs.File.{cells_in_file}
use Rattle.rules.specs.Book.{count}
use Rattle.rules.specs.Calls.{load_number}
use Rattle.rules.specs.Truth.{Mesh}
use Rattle.rules.specs.Sequence.{Reached}
use Rattle.rules.specs.Sheet.{edges_of, ends_at, across, rim_edges_of, rim_vertices_of, rim_file, rim_length_of, sheet_answer, sheet_for, sheet_across, sheet_bytes, sheet_vertices, sheet_edges}

-- the rim's file, as the call leaves it at the front of the lent bytes
abbrev pub rim_bytes : List ℕ → List ℕ → List ℕ → List ℕ → List ℕ → List ℕ
rim_bytes ws xs bs vs es = take (rim_length_of ws) (sheet_bytes ws xs bs vs es)

-- ==== on a book as in demand 3
-- by the list ys, cell a is across edge i of cell c: it is another cell, the same edge is its edge number `at`, and across that stands c
pub record Across (ws ys : List ℕ) (c i a : ℕ) : Type 0 where
  pub cell : a < count ws 2
  pub other : a ≡ c → ⊥
  pub at : ℕ
  pub low : at < 3
  pub edge : get_or (edges_of ws a) at 0 ≡ get_or (edges_of ws c) i 0
  pub back : get_or ys (3 * a + at) 0 ≡ c

-- "across" goes back as well as forth, by the same edge
abbrev pub BackAndForth : Type 0
BackAndForth = (m : Mesh) (ws : List ℕ) → Reached m ws → (xs bs vs es : List ℕ) → sheet_for ws xs bs vs es ≡ 0
    → (c i : ℕ) → c < count ws 2 → i < 3 → (get_or (sheet_across ws xs bs vs es) (3 * c + i) 0 ≡ 65535 → ⊥)
    → Across ws (sheet_across ws xs bs vs es) c i (get_or (sheet_across ws xs bs vs es) (3 * c + i) 0)

-- none stands across an edge exactly where it is a rim edge
abbrev pub NoneAtRim : Type 0
NoneAtRim = (m : Mesh) (ws : List ℕ) → Reached m ws → (xs bs vs es : List ℕ) → sheet_for ws xs bs vs es ≡ 0
    → (c i : ℕ) → c < count ws 2 → i < 3
    → (get_or (sheet_across ws xs bs vs es) (3 * c + i) 0 ≡ 65535 → has (get_or (edges_of ws c) i 0) (rim_edges_of ws) ≡ true)
    × (has (get_or (edges_of ws c) i 0) (rim_edges_of ws) ≡ true → get_or (sheet_across ws xs bs vs es) (3 * c + i) 0 ≡ 65535)

-- each vertex has an even number of rim edges
abbrev pub EvenRim : Type 0
EvenRim = (m : Mesh) (ws : List ℕ) → Reached m ws → (xs bs vs es : List ℕ) → sheet_for ws xs bs vs es ≡ 0
    → (v : ℕ) → length (keep (λ k. has v (ends_at ws k)) (rim_edges_of ws)) % 2 ≡ 0

-- and so has each vertex in the bytes written, by its new number
abbrev pub EvenFile : Type 0
EvenFile = (m : Mesh) (ws : List ℕ) → Reached m ws → (xs bs vs es : List ℕ) → sheet_for ws xs bs vs es ≡ 0
    → (v : ℕ) → length (keep (has v) (cells_in_file (rim_bytes ws xs bs vs es))) % 2 ≡ 0

-- Load accepts these bytes in every book that has room for them
abbrev pub RimAccepted : Type 0
RimAccepted = (m : Mesh) (ws : List ℕ) → Reached m ws → (xs bs vs es : List ℕ) → sheet_for ws xs bs vs es ≡ 0
    → (us : List ℕ) → 6 + 3 * length (rim_edges_of ws) ≤ length us → load_number (rim_bytes ws xs bs vs es) us ≡ 0

-- 28 with 4 does not occur
abbrev pub AlwaysMatched : Type 0
AlwaysMatched = (m : Mesh) (ws : List ℕ) → Reached m ws → (acrosses bytes vertices edges c : ℕ) → sheet_answer ws acrosses bytes vertices edges ≡ 28 ∷ 4 ∷ c ∷ [] → ⊥

-- ==== on any book
-- an accepted call leaves the cells across, the rim's file, and the maps to the old vertices and edges; bytes and map places past that stay
abbrev pub Written : Type 0
Written = (ws xs bs vs es : List ℕ) → sheet_for ws xs bs vs es ≡ 0
    → (sheet_across ws xs bs vs es ≡ across ws)
    × (sheet_bytes ws xs bs vs es ≡ rim_file ws ++ drop (rim_length_of ws) bs)
    × (sheet_vertices ws xs bs vs es ≡ rim_vertices_of ws ++ drop (length (rim_vertices_of ws)) vs)
    × (sheet_edges ws xs bs vs es ≡ rim_edges_of ws ++ drop (length (rim_edges_of ws)) es)

-- the maps lead back: cell j of the bytes written, each vertex taken back by the map of vertices, is the ends of edge j of the map of edges
abbrev pub MapsBack : Type 0
MapsBack = (ws xs bs vs es : List ℕ) → sheet_for ws xs bs vs es ≡ 0 → (j : ℕ) → j < length (rim_edges_of ws)
    → map (λ n. get_or (sheet_vertices ws xs bs vs es) n 0) (get_or (cells_in_file (rim_bytes ws xs bs vs es)) j []) ≡ ends_at ws (get_or (sheet_edges ws xs bs vs es) j 0)

-- no lent list changes its length
abbrev pub PlacesKept : Type 0
PlacesKept = (ws xs bs vs es : List ℕ)
    → (length (sheet_across ws xs bs vs es) ≡ length xs)
    × (length (sheet_bytes ws xs bs vs es) ≡ length bs)
    × (length (sheet_vertices ws xs bs vs es) ≡ length vs)
    × (length (sheet_edges ws xs bs vs es) ≡ length es)
