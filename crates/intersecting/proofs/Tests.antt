-- The tests of a chain of words, as the rules have them.
use mathlib.Core.Path.{◌≡◌, refl, ap}
use mathlib.Core.Bool.{Bool, ◌&&◌, ◌||◌}
use mathlib.Core.List.{List, [], ◌∷◌}
use Prim.Native.Nat.{ℕ}
use lib.Dec.{eqb}
use Rattle.std.specs.List.{list_any, list_all}
use Rattle.rules.specs.Lists.{any_of, all_of, has, inside}
use Rattle.rules.proofs.Tests.{eqb_comm}

any-has : (x : ℕ) (ws : List ℕ) → list_any (λ w. eqb w x) ws ≡ has x ws
unfolding has any_of
any-has x [] = refl
any-has x (w ∷ ws) = rw (eqb_comm x w) (ap (λ (b : Bool). eqb w x || b) (any-has x ws))

pub all-inside : (ps qs : List ℕ) → list_all (λ w. list_any (λ v. eqb v w) qs) ps ≡ inside ps qs
unfolding inside all_of
all-inside [] qs = refl
all-inside (p ∷ ps) qs = rw (any-has p qs) (ap (λ (b : Bool). has p qs && b) (all-inside ps qs))
