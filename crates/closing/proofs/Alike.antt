-- An answer is what its number and its place say: two answers that the contract allows are equal.
use mathlib.Core.Path.{◌≡◌, refl}
use mathlib.Core.List.{List}
use Prim.Native.Nat.{ℕ}
use lib.IntN.{ℤ}
use Rattle.std.specs.Prelude.{Result}
use Rattle.rules.specs.Lists.{all_of}
use Rattle.rules.specs.Broken.{broken_at, told}
use Rattle.rules.specs.Closures.{close_rules, close_number}
use Rattle.kinds.specs.declared.refusals.Refusal.{Refusal}
use Rattle.kinds.specs.Refusals.{answer_number, answer_place}
use Rattle.kinds.proofs.Determined.{bare, bare-alike, number-has}

pub close-determined : (ws : List ℕ) (counts : List ℤ) (closures steps bytes : ℕ) (a b : Result (Unit {0}) Refusal)
    → answer_number a ≡ close_number ws counts closures steps bytes → answer_place a ≡ told (close_number ws counts closures steps bytes) (broken_at ws)
    → answer_number b ≡ close_number ws counts closures steps bytes → answer_place b ≡ told (close_number ws counts closures steps bytes) (broken_at ws) → a ≡ b
unfolding close_number close_rules bare all_of
close-determined ws counts closures steps bytes a b n p m q = bare-alike a b _ _ (number-has bare (close_rules ws counts closures steps bytes) 0 refl refl) n p m q (λ x y u v. refl)
