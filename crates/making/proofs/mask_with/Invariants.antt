-- Every step keeps the mask at the end, and the mask grows, which stays below 2^16.
use mathlib.Core.Path.{◌≡◌}
use Prim.Native.Nat.{◌-◌, ◌^◌, ◌<◌}
use Rattle.rules.specs.Steps.{mask_with}
use Rattle.making.proofs.mask_with.Given as goal

abbrev pub invariant-loop-now : goal.invariant-loop-now
invariant-loop-now l = (l.now < 2 ^ 16) × (mask_with 6 l.top l.now l.k ≡ mask_with 6 l.top l.mask l.k)

abbrev pub decreases-loop-now : goal.decreases-loop-now
decreases-loop-now l = 2 ^ 16 - l.now
