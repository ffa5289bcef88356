-- The cells as words, one after another, and what of them no earlier cell has.
use Rattle.std.specs.Prelude.{◌≡◌, Bool, true, not, List, map, ℕ, ◌+◌, ◌*◌, ◌≤◌, ◌<◌, length, take, drop}
use Rattle.rules.specs.Lists.{up_to, any_of, keep, inside, ascends, choose}
use Rattle.rules.specs.Book.{most}
use Rattle.rules.specs.Truth.{Mesh}
use Rattle.plain.specs.declared.stored.Sizes.{Sizes}
use Rattle.plain.specs.Links.{Small}

-- the vertices of cell c, where each cell has `size`
unfoldable pub cell_at : ℕ → List ℕ → ℕ → List ℕ
cell_at size ws c = take size (drop (c * size) ws)

-- the first n cells
unfoldable pub cells_before : ℕ → List ℕ → ℕ → List (List ℕ)
cells_before size ws n = map (cell_at size ws) (up_to n)

-- n cells of D + 1 vertices each, ascending, fill the words
pub record Cells (ws : List ℕ) (D n : ℕ) : Type 0 where
  pub high : D ≤ 3
  pub long : length ws ≡ n * (D + 1)
  pub up : (c : ℕ) → c < n → ascends (cell_at (D + 1) ws c) ≡ true
  pub small : Small ws

-- candidate q of d + 1 members in a cell of D + 1, 0 < d < D
pub record Choice (D d q : ℕ) : Type 0 where
  pub low : 0 < d
  pub high : d < D
  pub three : D ≤ 3
  pub few : q < most D d

-- a set that no cell before cell c has
unfoldable pub is_new : ℕ → List ℕ → ℕ → List ℕ → Bool
is_new D ws c s = not (any_of (inside s) (cells_before (D + 1) ws c))

-- of the first q candidates of cell c, those that no cell before it has
unfoldable pub news : ℕ → ℕ → List ℕ → ℕ → ℕ → List (List ℕ)
news D d ws c q = keep (is_new D ws c) (take q (choose (d + 1) (cell_at (D + 1) ws c)))

-- the mesh of the cells: D, N_0 and the cells
unfoldable pub mesh_from : Sizes → List ℕ → Mesh
mesh_from s ws = record { dims = s.dim; vertices = s.vertices; cells = cells_before (s.dim + 1) ws s.cells }
