-- What salvage gives where it accepts, number by number; a refusal gives nothing.
use mathlib.Core.Path.{◌≡◌, refl, ap, ◌∙◌}
use mathlib.Core.Bool.{cond}
use mathlib.Core.List.{List, [], ◌∷◌}
use Prim.Native.Nat.{ℕ}
use lib.ListN.{get_or}
use lib.Dec.{eqb}
use mir.Val.{bool_byte}
use Rattle.rules.specs.Salvage.{saved_length, dropped_count, spare_was, pad_was, length_was, salvage_number, salvage_given}
use Rattle.salvaging.specs.Answers.{saved_given}
use Rattle.salvaging.specs.declared.answers.Saved.{Saved}
use Rattle.daybook_c.proofs.Given.{flag_is}

module _ (f bytes list : List ℕ) (s : Saved) (e : 0 ≡ salvage_number f bytes list) (g : saved_given s ≡ salvage_given f bytes list) where
  numbers : saved_given s ≡ saved_length f ∷ dropped_count f ∷ cond (spare_was f) 1 0 ∷ cond (pad_was f) 1 0 ∷ cond (length_was f) 1 0 ∷ []
  unfolding salvage_given
  numbers = rw (← e) at g

  -- one of the five
  number : (k : ℕ) → get_or (saved_given s) k 0 ≡ get_or (saved_length f ∷ dropped_count f ∷ cond (spare_was f) 1 0 ∷ cond (pad_was f) 1 0 ∷ cond (length_was f) 1 0 ∷ []) k 0
  number k = ap (λ (ns : List ℕ). get_or ns k 0) numbers

  pub length-given : s.length ≡ saved_length f
  unfolding saved_given
  length-given = number 0

  pub count-given : s.dropped ≡ dropped_count f
  unfolding saved_given
  count-given = number 1

  pub spare-given : bool_byte s.spare ≡ cond (spare_was f) 1 0
  unfolding saved_given
  spare-given = flag_is {b = s.spare} refl ∙ number 2

  pub pad-given : bool_byte s.pad ≡ cond (pad_was f) 1 0
  unfolding saved_given
  pad-given = flag_is {b = s.pad} refl ∙ number 3

  pub wrong-given : bool_byte s.wrong_length ≡ cond (length_was f) 1 0
  unfolding saved_given
  wrong-given = flag_is {b = s.wrong_length} refl ∙ number 4
