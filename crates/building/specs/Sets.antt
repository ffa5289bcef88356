-- The sets met so far as words: three for each entity, and for each vertex the chain of the entities that have it as their lowest.
use Rattle.std.specs.Prelude.{◌≡◌, List, [], ◌∷◌, ◌++◌, map, ℕ, ◌+◌, ◌-◌, ◌*◌, length, get_or, take, replicate}
use Rattle.rules.specs.Lists.{up_to}
use Rattle.rules.specs.Chains.{Chains}

-- a set of d + 1 vertices as three words: an edge has a 0 behind it
unfoldable pub padded : ℕ → List ℕ → List ℕ
padded d s = s ++ replicate (2 - d) 0

-- the words of entity i
unfoldable pub entity : List ℕ → ℕ → List ℕ
entity sets i = get_or sets (3 * i) 0 ∷ get_or sets (3 * i + 1) 0 ∷ get_or sets (3 * i + 2) 0 ∷ []

-- the d + 1 vertices of entity i
unfoldable pub vertices : ℕ → List ℕ → ℕ → List ℕ
vertices d sets i = take (d + 1) (entity sets i)

-- the words of the first n entities
unfoldable pub entities : List ℕ → ℕ → List (List ℕ)
entities sets n = map (entity sets) (up_to n)

-- the lowest vertex of entity i
abbrev pub lowest : List ℕ → ℕ → ℕ
lowest sets i = get_or sets (3 * i) 0

-- room for the words of all entities, and n of them, each in the chain of its lowest vertex
pub record Chained (sets head next : List ℕ) (n : ℕ) : Type 0 where
  pub long : length sets ≡ 73728
  pub chains : Chains (lowest sets) 8192 24576 head next n
