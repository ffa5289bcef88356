-- Two answers that the contract allows are equal.
use mathlib.Core.Path.{◌≡◌, refl, sym, ap, ◌∙◌}
use mathlib.Core.List.{List, [], ◌∷◌}
use Prim.Native.Nat.{ℕ}
use Rattle.std.specs.Prelude.{Result}
use Rattle.rules.specs.Lists.{all_of}
use Rattle.rules.specs.Calls.{file_rules, load_rules, load_number, load_cell}
use Rattle.kinds.specs.declared.refusals.Refusal.{Refusal}
use Rattle.kinds.specs.Refusals.{answer_number, answer_cell}
use Rattle.kinds.proofs.Determined.{answers-alike, low, low-place, low-why, number-has}

pub load-determined : (f ws : List ℕ) (a b : Result (Unit {0}) Refusal) → answer_number a ≡ load_number f ws → answer_cell a ≡ load_cell f ws
    → answer_number b ≡ load_number f ws → answer_cell b ≡ load_cell f ws → a ≡ b
unfolding load_number load_rules file_rules low all_of
load-determined f ws a b n c m e =
    let l = number-has low (load_rules f ws) 0 refl refl in
    answers-alike a b (n ∙ sym m)
    (low-place a (ap low n ∙ l) ∙ sym (low-place b (ap low m ∙ l)))
    (c ∙ sym e)
    (low-why a (ap low n ∙ l) ∙ ap (λ i. i ∷ []) (n ∙ sym m) ∙ sym (low-why b (ap low m ∙ l)))
    (λ x y u v. refl)
