-- The numbers of places: as many as the places, read and set one by one; places are known by them.
use mathlib.Core.Path.{◌≡◌, refl, sym, ap, ◌∙◌}
use mathlib.Core.List.{List, [], ◌∷◌, map}
use Prim.Native.Nat.{ℕ, zero, suc}
use lib.ListN.{length, get_or, set, length-map, get_or-map}
use Rattle.book.specs.declared.Place.{Place}
use Rattle.book.specs.Numbers.{numbers}

pub length-numbers : (ps : List Place) → length (numbers ps) ≡ length ps
unfolding numbers
length-numbers ps = length-map ps (λ p. p.0)

pub number_at : (ps : List Place) (i : ℕ) → get_or (numbers ps) i 0 ≡ (get_or ps i (record { 0 = 0 })).0
unfolding numbers
number_at ps i = get_or-map (λ p. p.0) ps i (record { 0 = 0 })

pub number-set : (ps : List Place) (i : ℕ) (p : Place) → numbers (set ps i p) ≡ set (numbers ps) i p.0
unfolding numbers
number-set [] i p = refl
number-set (q ∷ ps) zero p = refl
number-set (q ∷ ps) (suc i) p = ap (λ (ns : List ℕ). q.0 ∷ ns) (number-set ps i p)

-- two lists of places with the same numbers are the same
placed : ℕ → Place
placed n = record { 0 = n }

known : (ps : List Place) → map placed (numbers ps) ≡ ps
unfolding numbers placed
known [] = refl
known (p ∷ ps) = ap (λ (qs : List Place). p ∷ qs) (known ps)

pub numbers-same : (ps qs : List Place) → numbers ps ≡ numbers qs → ps ≡ qs
numbers-same ps qs e = sym (known ps) ∙ ap (map placed) e ∙ known qs
