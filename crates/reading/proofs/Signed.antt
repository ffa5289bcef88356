-- The difference of two numbers of 32 bits, as a signed number of 64 bits.
use mathlib.Core.Path.{◌≡◌, refl, ap₂, ◌∙◌}
use mathlib.Core.Bool.{Bool, true, false, cond}
use Prim.Native.Nat.{ℕ, zero, suc, ◌-◌, ◌^◌, ◌<◌}
use native.Mathlib.Nat.{add-zero, sub-zero}
use native.Mathlib.Omega.{arith}
use lib.Dec.{ltb}
use borrow.Author.Tests.{le-ltb}
use lib.IntN.{ℤ, pos, negsuc, sub_ℕ, ◌-ℤ◌}
use mir.Syntax.{w64}
use mir.Val.{SFits, to_z}
use mir.ValLaws.{to_z_pos}

pub pos-less : (a b : ℕ) → pos a -ℤ pos b ≡ sub_ℕ a b
pos-less a zero = rw (le-ltb a 0 (omega arith), add-zero, sub-zero)
pos-less a (suc b) = refl

pub less-fits : (a b : ℕ) → a < 2 ^ 32 → b < 2 ^ 32 → SFits w64 (sub_ℕ a b)
less-fits a b l m = go (ltb a b)
  where
    go : (t : Bool) → SFits w64 (cond t (negsuc (b - suc a)) (pos (a - b)))
    go true = record { sfits = omega arith }
    go false = record { sfits = omega arith }

-- read back from their bits, the difference is the same
pub read-less : (a b : ℕ) → a < 2 ^ 32 → b < 2 ^ 32 → to_z w64 a -ℤ to_z w64 b ≡ sub_ℕ a b
read-less a b l m = ap₂ (λ (x y : ℤ). x -ℤ y) (to_z_pos w64 a (omega arith)) (to_z_pos w64 b (omega arith)) ∙ pos-less a b
