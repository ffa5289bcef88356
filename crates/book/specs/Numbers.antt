-- Places by their numbers.
use Rattle.std.specs.Prelude.{List, map, ℕ}
use Rattle.book.specs.declared.Place.{Place}

-- the numbers of the places, in their order
unfoldable pub numbers : List Place → List ℕ
numbers ps = map (λ p. p.0) ps
