-- Words as rows of equally many, and the bucket in which a row is looked for.
use Rattle.std.specs.Prelude.{List, [], ◌∷◌, map, ℕ, ◌+◌, ◌*◌, ◌/◌, ◌%◌, take, drop}
use Rattle.rules.specs.Lists.{up_to}

-- row i of the words, `size` words to a row
unfoldable pub row_at : ℕ → List ℕ → ℕ → List ℕ
row_at size ws i = take size (drop (size * i) ws)

-- the first n rows
unfoldable pub rows_in : ℕ → List ℕ → ℕ → List (List ℕ)
rows_in size ws n = map (row_at size ws) (up_to n)

-- all words of a row mixed into 32 bits
unfoldable pub mixed : List ℕ → ℕ
mixed [] = 0
mixed (x ∷ xs) = (mixed xs + x) % 4294967296 * 2654435761 % 4294967296

-- the bucket of a row: the highest 13 bits
unfoldable pub bucket_of : List ℕ → ℕ
bucket_of r = mixed r / 524288

-- the bucket of row i
unfoldable pub bucket_at : ℕ → List ℕ → ℕ → ℕ
bucket_at size ws i = bucket_of (row_at size ws i)
