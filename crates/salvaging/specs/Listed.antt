-- The pairs of the cells that are dropped, from why each cell is.
use Rattle.std.specs.Prelude.{cond, not, List, [], ◌∷◌, map, ℕ, get_or, eqb}
use Rattle.rules.specs.Lists.{up_to, keep, joined}

-- the two numbers of cell c, or none where it is kept
unfoldable pub pair_of : ℕ → ℕ → List ℕ
pair_of c n = cond (eqb n 0) [] (c ∷ n ∷ [])

-- the pairs of those of the first n cells that are dropped, `by` giving why
unfoldable pub pairs_by : (ℕ → ℕ) → ℕ → List ℕ
pairs_by by n = joined (map (λ c. c ∷ by c ∷ []) (keep (λ c. not (eqb (by c) 0)) (up_to n)))

-- the same where a list has why
unfoldable pub pairs_in : List ℕ → ℕ → List ℕ
pairs_in whys n = pairs_by (λ c. get_or whys c 0) n
