-- What the boxes themselves need: the calls have passed their tests.
use Rattle.std.specs.Prelude.{◌≡◌, true, List, ℕ, ◌<◌, ◌≤◌}
use Rattle.rules.specs.Book.{dim, count, key, held, frame_right, rows_right}

-- the book is right, and there are at most three axes
pub record MeshReady (ws : List ℕ) (axes : ℕ) : Type 0 where
  pub frame : frame_right ws ≡ true
  pub rows : rows_right ws ≡ true
  pub few : axes ≤ 3

-- and it has the entity (d, i), whose vertices are held
pub record EntityReady (ws : List ℕ) (axes d i : ℕ) : Type 0 where
  pub mesh : MeshReady ws axes
  pub low : d ≤ dim ws
  pub vertices : 0 < d → held ws (key d 0) ≡ true
  pub there : i < count ws d
