-- What Build asks of its cells, and of one cell's candidates.
use Rattle.std.specs.Prelude.{◌≡◌, List, [], ℕ, ◌+◌, ◌≤◌, ◌<◌, length, get_or, ltb, true}
use Rattle.rules.specs.Lists.{all_of, ascends}
use Rattle.rules.specs.Book.{dim, count, key, place}
use Rattle.relations.specs.Words.{row_at, Rows}

-- 0 < d < D ≤ 3
pub record Between (d D : ℕ) : Type 0 where
  pub low : 0 < d
  pub high : d < D
  pub most : D ≤ 3

-- D→0 stands at `at`, with n rows
pub record Source (ws : List ℕ) (D at n : ℕ) : Type 0 where
  pub top : D ≡ dim ws
  pub stands : at ≡ place ws (key D 0)
  pub rows : n ≡ count ws D

-- the n rows at `at` have D + 1 vertices each, ascending, that have a chain
pub record Corners (ws : List ℕ) (D at n : ℕ) : Type 0 where
  pub rows : Rows ws at n (length ws)
  pub few : n ≤ 4096
  pub size : (i : ℕ) → i < n → length (row_at ws at n i) ≡ D + 1
  pub up : (i : ℕ) → i < n → ascends (row_at ws at n i) ≡ true
  pub below : (i : ℕ) → i < n → all_of (λ v. ltb v 8192) (row_at ws at n i) ≡ true

-- n candidates of three words, with lowest vertices that have a chain
pub record Candidates (sets : List (List ℕ)) (n : ℕ) : Type 0 where
  pub few : n ≤ length sets
  pub size : (j : ℕ) → j < n → length (get_or sets j []) ≡ 3
  pub below : (j : ℕ) → j < n → get_or (get_or sets j []) 0 0 < 8192
