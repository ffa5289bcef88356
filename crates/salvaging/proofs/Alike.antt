-- An answer is what its number and what it gives say: two answers that the contract allows are equal.
use mathlib.Core.Path.{◌≡◌, refl, sym, ap, ◌∙◌}
use mathlib.Core.Bool.{Bool, true, false, cond}
use mathlib.Core.List.{List, []}
use Prim.Native.Nat.{ℕ}
use lib.ListN.{get_or}
use lib.Dec.{eqb}
use Rattle.std.specs.Prelude.{Result}
use Rattle.rules.specs.Lists.{all_of}
use Rattle.rules.specs.Salvage.{salvage_rules, salvage_number, salvage_given}
use Rattle.kinds.specs.declared.refusals.Refusal.{Refusal}
use Rattle.kinds.specs.Refusals.{answer_number, given}
use Rattle.kinds.proofs.Determined.{bare, silent, silent-alike, number-has}
use Rattle.salvaging.specs.Answers.{saved_given}
use Rattle.salvaging.specs.declared.answers.Saved.{Saved}

-- what was saved is what its five numbers say
unfoldable saved_of : List ℕ → Saved
saved_of ns =
    record {
      length = get_or ns 0 0;
      dropped = get_or ns 1 0;
      spare = eqb (get_or ns 2 0) 1;
      pad = eqb (get_or ns 3 0) 1;
      wrong_length = eqb (get_or ns 4 0) 1;
    }

-- a truth value told as 1 or 0 is told back
flag-back : (b : Bool) → eqb (cond b 1 0) 1 ≡ b
flag-back true = refl
flag-back false = refl

saved-back : (s : Saved) → saved_of (saved_given s) ≡ s
unfolding saved_of saved_given
saved-back s = rw (flag-back s.spare, flag-back s.pad, flag-back s.wrong_length)

pub salvage-determined : (f bytes list : List ℕ) (a b : Result Saved Refusal)
    → answer_number a ≡ salvage_number f bytes list → given [] saved_given a ≡ salvage_given f bytes list
    → answer_number b ≡ salvage_number f bytes list → given [] saved_given b ≡ salvage_given f bytes list → a ≡ b
unfolding salvage_number salvage_rules silent bare all_of
salvage-determined f bytes list a b n g m h =
    silent-alike a b _ (number-has silent (salvage_rules f bytes list) 0 refl refl) n m
    (λ x y s t. sym (saved-back x) ∙ ap saved_of (sym (ap (given [] saved_given) s) ∙ g ∙ sym h ∙ ap (given [] saved_given) t) ∙ saved-back y)
