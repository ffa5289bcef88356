-- The library's test of all a list's members is the documents'.
use mathlib.Core.Path.{◌≡◌, refl, ap}
use mathlib.Core.Bool.{Bool, ◌&&◌}
use mathlib.Core.List.{List, [], ◌∷◌}
use Rattle.std.specs.List.{list_all}
use Rattle.rules.specs.Lists.{all_of}

pub all-is : {A : Type 0} (p : A → Bool) (xs : List A) → list_all p xs ≡ all_of p xs
unfolding all_of
all-is p [] = refl
all-is p (x ∷ xs) = ap (λ (b : Bool). p x && b) (all-is p xs)
