-- For each place in the cells' words, the nearest earlier place with the same vertex.
use Rattle.std.specs.Prelude.{◌≡◌, true, ℕ, ◌*◌, ◌≤◌, ◌<◌, List, length, get_or}
use Rattle.rules.specs.Lists.{has}
use Rattle.rules.specs.Chains.{Links}

-- `earlier` has for each place below m one more than the nearest before it with the same vertex, or 0 where there is none: places in chains, one for each vertex
abbrev pub Linked : List ℕ → List ℕ → ℕ → Type 0
Linked ws earlier m = Links (λ q. get_or ws q 0) 16384 earlier m

-- few enough words, of vertices that have a place in the table
pub record Small (ws : List ℕ) : Type 0 where
  pub few : length ws ≤ 16384
  pub below : (p : ℕ) → p < length ws → get_or ws p 0 < 8192

-- the first place of v among the first n, or n where it is not there
pub record FirstOf (ws : List ℕ) (n v k : ℕ) : Type 0 where
  pub within : k ≤ n
  pub found : k < n → get_or ws k 0 ≡ v
  pub before : (q : ℕ) → q < k → get_or ws q 0 ≡ v → ⊥

-- the place `at` is none before cell c, its vertex is one of the set, and no place from the first of cell c up to it holds that vertex
pub record AtCorner (ws : List ℕ) (size c at : ℕ) (s : List ℕ) : Type 0 where
  pub low : c * size ≤ at
  pub high : at < length ws
  pub one : has (get_or ws at 0) s ≡ true
  pub first : (q : ℕ) → c * size ≤ q → q < at → get_or ws q 0 ≡ get_or ws at 0 → ⊥
