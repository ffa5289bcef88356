-- Document 02, "Cells sent in another order": two meshes with equal D, N_0 and set of cells as vertex sets.
use Rattle.std.specs.Prelude.{◌≡◌, Bool, true, ◌&&◌, List, ℕ}
use Rattle.rules.specs.Lists.{any_of, all_of, same}
use Rattle.rules.specs.Truth.{Mesh}

-- ==== sets of vertex sets; a vertex set is an ascending list, so that equal sets are equal lists
-- s is one of the sets
unfoldable pub among : List (List ℕ) → List ℕ → Bool
among ss s = any_of (same s) ss

-- the two lists have the same sets, in any order
unfoldable pub same_sets : List (List ℕ) → List (List ℕ) → Bool
same_sets ss ts = all_of (among ts) ss && all_of (among ss) ts

-- ==== two meshes
-- equal D, N_0 and set of cells
pub record SameCells (m n : Mesh) : Type 0 where
  pub dims : m.dims ≡ n.dims
  pub vertices : m.vertices ≡ n.vertices
  pub cells : same_sets m.cells n.cells ≡ true
