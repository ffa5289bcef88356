-- An answer is what its number with what it carries, its place and what it gives say: two answers that the contract allows are equal.
use mathlib.Core.Path.{◌≡◌, refl, sym, ap, ◌∙◌}
use mathlib.Core.List.{List, []}
use Prim.Native.Nat.{ℕ}
use lib.ListN.{get_or}
use Rattle.std.specs.Prelude.{Result}
use Rattle.rules.specs.Lists.{all_of}
use Rattle.rules.specs.Broken.{broken_at, told}
use Rattle.rules.specs.Sheet.{sheet_rules, sheet_answer, sheet_number, sheet_given}
use Rattle.kinds.specs.declared.refusals.Refusal.{Refusal}
use Rattle.kinds.specs.Refusals.{answer_why, answer_place, given}
use Rattle.kinds.proofs.Determined.{alone, reasoned-alike, number-has}
use Rattle.sheets.specs.Answers.{rim_given}
use Rattle.sheets.specs.declared.answers.Rim.{Rim}

-- a rim is what its three numbers say
rim_of : List ℕ → Rim
rim_of ns = record { length = get_or ns 0 0; vertices = get_or ns 1 0; edges = get_or ns 2 0 }

rim_back : (r : Rim) → rim_of (rim_given r) ≡ r
unfolding rim_of
rim_back r = refl

pub sheet-determined : (ws : List ℕ) (acrosses bytes vertices edges : ℕ) (a b : Result Rim Refusal)
    → answer_why a ≡ sheet_answer ws acrosses bytes vertices edges → answer_place a ≡ told (sheet_number ws acrosses bytes vertices edges) (broken_at ws) → given [] rim_given a ≡ sheet_given ws acrosses bytes vertices edges
    → answer_why b ≡ sheet_answer ws acrosses bytes vertices edges → answer_place b ≡ told (sheet_number ws acrosses bytes vertices edges) (broken_at ws) → given [] rim_given b ≡ sheet_given ws acrosses bytes vertices edges → a ≡ b
unfolding sheet_answer sheet_rules alone all_of
sheet-determined ws acrosses bytes vertices edges a b n p g m q h =
    reasoned-alike a b _ _ (number-has (λ l. alone (get_or l 0 0)) (sheet_rules ws acrosses bytes vertices edges) _ refl refl) n p m q
    (λ x y s t. sym (rim_back x) ∙ ap rim_of (sym (ap (given [] rim_given) s) ∙ g ∙ sym h ∙ ap (given [] rim_given) t) ∙ rim_back y)
