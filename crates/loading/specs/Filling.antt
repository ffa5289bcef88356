-- What a book is filled from.
use Rattle.std.specs.Prelude.{◌≡◌, List, map, ℕ, ◌≤◌, length}
use Rattle.rules.specs.Lists.{sorted}
use Rattle.rules.specs.File.{field, cells_in_file, head_cells}
use Rattle.rules.specs.Calls.{loaded}
use Rattle.dayfile.specs.Words.{cells_in}

-- the file has at most 4096 cells, which are put down in the words, each ascending, and the book has room for the file's mesh
pub record Filling (f ws book : List ℕ) : Type 0 where
  pub few : head_cells (field f 0 32) ≤ 4096
  pub cells : cells_in (field f 0 32) ws ≡ map sorted (cells_in_file f)
  pub room : length (loaded f) ≤ length book
