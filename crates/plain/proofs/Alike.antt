-- An answer is what its number, its yes and its place say: two answers that the contract allows are equal.
use mathlib.Core.Path.{◌≡◌, refl, sym, ap, ◌∙◌}
use mathlib.Core.Bool.{Bool, false}
use mathlib.Core.List.{List}
use Prim.Native.Nat.{ℕ}
use Rattle.std.specs.Prelude.{Result}
use Rattle.rules.specs.Lists.{all_of}
use Rattle.rules.specs.Broken.{broken_at, told}
use Rattle.rules.specs.Plain.{plain_rules, plain_number, plain_yes}
use Rattle.kinds.specs.declared.refusals.Refusal.{Refusal}
use Rattle.kinds.specs.Refusals.{answer_number, answer_place, given}
use Rattle.kinds.proofs.Determined.{bare, bare-alike, number-has}

pub plain-determined : (ws : List ℕ) (d e i j : ℕ) (a b : Result Bool Refusal)
    → answer_number a ≡ plain_number ws d e i j → given false (λ y. y) a ≡ plain_yes ws d e i j → answer_place a ≡ told (plain_number ws d e i j) (broken_at ws)
    → answer_number b ≡ plain_number ws d e i j → given false (λ y. y) b ≡ plain_yes ws d e i j → answer_place b ≡ told (plain_number ws d e i j) (broken_at ws) → a ≡ b
unfolding plain_number plain_rules bare all_of
plain-determined ws d e i j a b n y p m z q =
    bare-alike a b _ _ (number-has bare (plain_rules ws d e i j) 0 refl refl) n p m q
    (λ u v s t. sym (ap (given false (λ y. y)) s) ∙ y ∙ sym z ∙ ap (given false (λ y. y)) t)
