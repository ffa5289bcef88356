-- The cells of a file as words, four words to a cell.
use Rattle.std.specs.Prelude.{◌≡◌, List, ◌++◌, map, ℕ, ◌+◌, ◌-◌, ◌*◌, length, take, drop, replicate}
use Rattle.rules.specs.Lists.{up_to, sorted}
use Rattle.rules.specs.File.{file_dim, file_cell, head_dim, head_cells}
use Rattle.repeats.specs.Rows.{row_at, rows_in}

-- the four words of cell c: its vertices ascending, then zeros
unfoldable pub four_words : List ℕ → ℕ → List ℕ
four_words f c = sorted (file_cell f c) ++ replicate (3 - file_dim f) 0

-- the words begin with the first n cells of the file, and behind these they are what they were
pub record Put (f was ws : List ℕ) (n : ℕ) : Type 0 where
  pub long : length ws ≡ 16384
  pub rows : rows_in 4 ws n ≡ map (four_words f) (up_to n)
  pub rest : drop (4 * n) ws ≡ drop (4 * n) was

-- the cells that the words begin with, for a head: of each the first D + 1 words
unfoldable pub cells_in : ℕ → List ℕ → List (List ℕ)
cells_in h ws = map (λ c. take (head_dim h + 1) (row_at 4 ws c)) (up_to (head_cells h))
