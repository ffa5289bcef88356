-- A set looked for by its number among sets.
use Rattle.std.specs.Prelude.{◌≡◌, List, [], ℕ, ◌+◌, ◌≤◌, ◌<◌, length, take, get_or, Option, Result, MatchOption, MatchResult}

-- s has the d + 1 members of set i of ss, which is there
pub record There (ss : List (List ℕ)) (d i : ℕ) (s : List ℕ) : Type 0 where
  pub below : i < length ss
  pub set : take (d + 1) s ≡ get_or ss i []

-- set i of ss is given; where it is not there, by how much their number is passed
abbrev pub Seeks : List (List ℕ) → ℕ → ℕ → Result (List ℕ) ℕ → Type 0
Seeks ss d i r = MatchResult r (There ss d i) (λ left. left + length ss ≡ i)

-- the same, without the count
abbrev pub Finds : List (List ℕ) → ℕ → ℕ → Option (List ℕ) → Type 0
Finds ss d i r = MatchOption r (length ss ≤ i) (There ss d i)
