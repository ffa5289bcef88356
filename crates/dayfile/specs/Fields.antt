-- Fields of 13 bits, one after another.
use Rattle.std.specs.Prelude.{List, [], ◌∷◌, ℕ, ◌+◌}
use Rattle.rules.specs.File.{with_field}

-- the bytes with the vertices from bit i on, 13 bits each
unfoldable pub with_fields : List ℕ → ℕ → List ℕ → List ℕ
with_fields bs i [] = bs
with_fields bs i (v ∷ vs) = with_fields (with_field bs i 13 v) (i + 13) vs
