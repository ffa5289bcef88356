-- The library's test of a list's members is the documents'.
use mathlib.Core.Path.{◌≡◌, refl, ap}
use mathlib.Core.Bool.{Bool, ◌||◌}
use mathlib.Core.List.{List, [], ◌∷◌, map}
use Rattle.std.specs.List.{list_any}
use Rattle.rules.specs.Lists.{any_of}

pub any-mapped : {A B : Type 0} (f : A → B) (p : B → Bool) (xs : List A) → list_any (λ x. p (f x)) xs ≡ any_of p (map f xs)
unfolding any_of
any-mapped f p [] = refl
any-mapped f p (x ∷ xs) = ap (λ (b : Bool). p (f x) || b) (any-mapped f p xs)
