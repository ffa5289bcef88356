-- The rows of d→e, d > e > 0.
use Rattle.std.specs.Prelude.{Bool, ◌&&◌, List, ℕ, ◌+◌, ◌≤◌}
use Rattle.rules.specs.Lists.{up_to, keep, inside}
use Rattle.relations.specs.Words.{part, row_at, Rows}
use Rattle.rules.specs.Made.{listed_at}

-- row i of d→e: own is d→0 with n rows, back is 0→e with v rows, sub is e→0 with b rows
unfoldable pub inner_row : List ℕ → ℕ → ℕ → ℕ → ℕ → ℕ → ℕ → ℕ → List ℕ
inner_row ws own n back v sub b i =
    keep (λ j. listed_at (row_at ws back v) (row_at ws own n i) j && inside (row_at ws sub b j) (row_at ws own n i)) (up_to b)

-- row i of the relation of n rows at `at` lies in the m words from a on
unfoldable pub lies_in : List ℕ → ℕ → ℕ → ℕ → ℕ → ℕ → Bool
lies_in ws at n a m i = inside (row_at ws at n i) (part ws a m)

-- what the test asks of the first k words: the relation of n rows at `at` lies there, b of its rows are asked for, and so do the m words from a on
pub record Asked (ws : List ℕ) (at n a m k b : ℕ) : Type 0 where
  pub rows : Rows ws at n k
  pub few : b ≤ n
  pub part : a + m ≤ k
