-- A relation among the words, found by where it stands; and what a function promises that appends one.
use Rattle.std.specs.Prelude.{◌≡◌, List, [], ◌∷◌, ◌++◌, ℕ, zero, suc, ◌+◌, ◌-◌, ◌≤◌, ◌<◌, length, get_or, take, drop}

-- the n numbers from a on
unfoldable pub range : ℕ → ℕ → List ℕ
range a zero = []
range a (suc n) = a ∷ range (suc a) n

-- n words from a on
unfoldable pub part : List ℕ → ℕ → ℕ → List ℕ
part ws a n = take n (drop a ws)

-- where row i of a relation of n rows that stands at `at` starts
unfoldable pub start_of : List ℕ → ℕ → ℕ → ℕ → ℕ
start_of ws at n i = at + n + 1 + get_or ws (at + i) 0

-- row i of a relation of n rows that stands at `at`
unfoldable pub row_at : List ℕ → ℕ → ℕ → ℕ → List ℕ
row_at ws at n i = part ws (at + n + 1 + get_or ws (at + i) 0) (get_or ws (at + (i + 1)) 0 - get_or ws (at + i) 0)

-- a relation of n rows stands at `at` and ends within m words: its offsets begin with 0 and never fall
pub record Rows (ws : List ℕ) (at n m : ℕ) : Type 0 where
  pub first : get_or ws at 0 ≡ 0
  pub rise : (i : ℕ) → i < n → get_or ws (at + i) 0 ≤ get_or ws (at + (i + 1)) 0
  pub fit : at + n + 1 + get_or ws (at + n) 0 ≤ m

-- new, from dst up to r: the words before dst stay, and where new fits no other word changes
pub record Written (ws : List ℕ) (dst : ℕ) (new : List ℕ) (r : ℕ) (vs : List ℕ) : Type 0 where
  pub place : r ≡ dst + length new
  pub front : take dst vs ≡ take dst ws
  pub words : r ≤ length ws → vs ≡ take dst ws ++ new ++ drop r ws
