-- The rows of d→d, and what a relation made of rows of rows asks of its sources.
use Rattle.std.specs.Prelude.{true, not, ◌&&◌, List, ◌≡◌, ℕ, ◌+◌, ◌≤◌, ◌<◌, length, get_or, eqb, ltb}
use Rattle.rules.specs.Lists.{up_to, all_of, keep, ascends}
use Rattle.rules.specs.Made.{listed_at}
use Rattle.relations.specs.Words.{start_of, row_at, Rows}

-- cursors over the rows, of a relation of v rows at `rows`, that the n words from a on name
pub record Stand (ws : List ℕ) (rows v a n : ℕ) (next end : List ℕ) : Type 0 where
  pub starts : (k : ℕ) → k < n → get_or next k 0 ≡ start_of ws rows v (get_or ws (a + k) 0)
  pub ends : (k : ℕ) → k < n → get_or end k 0 ≡ start_of ws rows v (get_or ws (a + k) 0 + 1)

-- row i of d→d: own is d→0 with n rows, back is 0→d with v rows
unfoldable pub near_row : List ℕ → ℕ → ℕ → ℕ → ℕ → ℕ → List ℕ
near_row ws own n back v i = keep (λ j. not (eqb j i) && listed_at (row_at ws back v) (row_at ws own n i) j) (up_to n)

-- own, of n rows, and back, of v rows, lie in the first m words, own's rows name rows of back, and back's rows ascend
pub record Through (ws : List ℕ) (own n back v m : ℕ) : Type 0 where
  pub owned : Rows ws own n m
  pub backed : Rows ws back v m
  pub below : (i : ℕ) → i < n → all_of (λ w. ltb w v) (row_at ws own n i) ≡ true
  pub ascend : (w : ℕ) → w < v → ascends (row_at ws back v w) ≡ true

-- the same of d→0 and 0→d, with at most four vertices to a row
pub record Incidence (ws : List ℕ) (own n back v m : ℕ) : Type 0 where
  pub through : Through ws own n back v m
  pub few : (i : ℕ) → i < n → length (row_at ws own n i) ≤ 4
