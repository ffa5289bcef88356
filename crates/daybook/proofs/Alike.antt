-- An answer is what its number and its place say: two answers that a contract allows are equal.
use mathlib.Core.Path.{◌≡◌, refl}
use mathlib.Core.List.{List}
use Prim.Native.Nat.{ℕ}
use Rattle.std.specs.Prelude.{Result}
use Rattle.rules.specs.Lists.{all_of}
use Rattle.rules.specs.Broken.{broken_at, told}
use Rattle.rules.specs.Calls.{make_rules, make_number, ask_rules, ask_number, list_rules, list_number, drop_rules, drop_number}
use Rattle.kinds.specs.declared.refusals.Refusal.{Refusal}
use Rattle.kinds.specs.Refusals.{answer_number, answer_place}
use Rattle.kinds.proofs.Determined.{bare, bare-alike, silent, silent-alike, number-has}

pub make-determined : (ws : List ℕ) (d e : ℕ) (a b : Result (Unit {0}) Refusal) → answer_number a ≡ make_number ws d e → answer_place a ≡ told (make_number ws d e) (broken_at ws)
    → answer_number b ≡ make_number ws d e → answer_place b ≡ told (make_number ws d e) (broken_at ws) → a ≡ b
unfolding make_number make_rules bare all_of
make-determined ws d e a b n p m q = bare-alike a b _ _ (number-has bare (make_rules ws d e) 0 refl refl) n p m q (λ x y u v. refl)

pub ask-determined : (ws : List ℕ) (d e : ℕ) (a b : Result (Unit {0}) Refusal) → answer_number a ≡ ask_number ws d e → answer_place a ≡ told (ask_number ws d e) (broken_at ws)
    → answer_number b ≡ ask_number ws d e → answer_place b ≡ told (ask_number ws d e) (broken_at ws) → a ≡ b
unfolding ask_number ask_rules bare all_of
ask-determined ws d e a b n p m q = bare-alike a b _ _ (number-has bare (ask_rules ws d e) 0 refl refl) n p m q (λ x y u v. refl)

pub list-determined : (ps ns : List ℕ) (a b : Result (Unit {0}) Refusal) → answer_number a ≡ list_number ps ns → answer_number b ≡ list_number ps ns → a ≡ b
unfolding list_number list_rules silent bare all_of
list-determined ps ns a b n m = silent-alike a b _ (number-has silent (list_rules ps ns) 0 refl refl) n m (λ x y u v. refl)

pub drop-determined : (ws : List ℕ) (d e : ℕ) (a b : Result (Unit {0}) Refusal) → answer_number a ≡ drop_number ws d e → answer_place a ≡ told (drop_number ws d e) (broken_at ws)
    → answer_number b ≡ drop_number ws d e → answer_place b ≡ told (drop_number ws d e) (broken_at ws) → a ≡ b
unfolding drop_number drop_rules bare all_of
drop-determined ws d e a b n p m q = bare-alike a b _ _ (number-has bare (drop_rules ws d e) 0 refl refl) n p m q (λ x y u v. refl)
