-- An answer is what its number, its place and its ends say: two answers that a contract allows are equal.
use mathlib.Core.Path.{◌≡◌, refl, sym, ap, ◌∙◌}
use mathlib.Core.Bool.{cond}
use mathlib.Core.List.{List, []}
use Prim.Native.Nat.{ℕ}
use lib.ListN.{get_or}
use lib.Ieee.{Float}
use Rattle.std.specs.Prelude.{Result, Option, Some, None}
use Rattle.rules.specs.Lists.{all_of}
use Rattle.rules.specs.Broken.{broken_at, told}
use Rattle.rules.specs.Boxes.{float_zero, coordinate_rules, box_rules, box_number, box_given, whole_rules, whole_number, whole_given, some_box}
use Rattle.kinds.specs.declared.refusals.Refusal.{Refusal}
use Rattle.kinds.specs.Refusals.{answer_number, answer_place, given}
use Rattle.kinds.proofs.Determined.{bare, bare-alike, number-has}
use Rattle.boxes.specs.Growing.{ends_of}
use Rattle.boxes.specs.declared.shapes.Bounds.{Bounds}
use Rattle.boxing.specs.Answers.{some_ends}

-- a box is what its ends say
unfoldable bounds_of : List Float → Bounds
bounds_of ends =
    record {
      least_x = get_or ends 0 float_zero;
      greatest_x = get_or ends 1 float_zero;
      least_y = get_or ends 2 float_zero;
      greatest_y = get_or ends 3 float_zero;
      least_z = get_or ends 4 float_zero;
      greatest_z = get_or ends 5 float_zero;
    }

bounds-back : (b : Bounds) → bounds_of (ends_of b) ≡ b
unfolding bounds_of ends_of
bounds-back b = refl

-- ==== the box of an entity
pub box-determined : (ws : List ℕ) (coordinates : List Float) (axes d i : ℕ) (a b : Result Bounds Refusal)
    → answer_number a ≡ box_number ws coordinates axes d i → answer_place a ≡ told (box_number ws coordinates axes d i) (broken_at ws) → given [] ends_of a ≡ box_given ws coordinates axes d i
    → answer_number b ≡ box_number ws coordinates axes d i → answer_place b ≡ told (box_number ws coordinates axes d i) (broken_at ws) → given [] ends_of b ≡ box_given ws coordinates axes d i → a ≡ b
unfolding box_number box_rules coordinate_rules bare all_of
box-determined ws coordinates axes d i a b n p e m q g =
    bare-alike a b _ _ (number-has bare (box_rules ws coordinates axes d i) 0 refl refl) n p m q
    (λ x y s t. sym (bounds-back x) ∙ ap bounds_of (sym (ap (given [] ends_of) s) ∙ e ∙ sym g ∙ ap (given [] ends_of) t) ∙ bounds-back y)

-- ==== the box of the whole mesh
whole_of : List Float → Option Bounds
whole_of ends = cond (some_box ends) (Some (bounds_of ends)) None

whole_back : (a : Option Bounds) → whole_of (some_ends a) ≡ a
unfolding whole_of some_box ends_of
whole_back (Some b) = ap Some (bounds-back b)
whole_back None = refl

pub whole-box-determined : (ws : List ℕ) (coordinates : List Float) (axes : ℕ) (a b : Result (Option Bounds) Refusal)
    → answer_number a ≡ whole_number ws coordinates axes → answer_place a ≡ told (whole_number ws coordinates axes) (broken_at ws) → given [] some_ends a ≡ whole_given ws coordinates axes
    → answer_number b ≡ whole_number ws coordinates axes → answer_place b ≡ told (whole_number ws coordinates axes) (broken_at ws) → given [] some_ends b ≡ whole_given ws coordinates axes → a ≡ b
unfolding whole_number whole_rules coordinate_rules bare all_of
whole-box-determined ws coordinates axes a b n p e m q g =
    bare-alike a b _ _ (number-has bare (whole_rules ws coordinates axes) 0 refl refl) n p m q
    (λ x y s t. sym (whole_back x) ∙ ap whole_of (sym (ap (given [] some_ends) s) ∙ e ∙ sym g ∙ ap (given [] some_ends) t) ∙ whole_back y)
