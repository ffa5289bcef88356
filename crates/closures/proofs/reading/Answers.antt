-- `closures::reading` meets its contract: the count is masked, or small enough that it and its quotient by 65,536 are exact.
use mathlib.Core.Path.{◌≡◌, sym, ap, ◌∙◌}
use Prim.Native.Nat.{◌^◌, ◌<◌}
use native.Mathlib.Omega.{arith}
use lib.IntN.{ℤ, pos, negsuc, nat_abs}
use mir.Syntax.{w32}
use mir.Val.{SFits, to_z, of_z}
use mir.ValLaws.{to_z-of_z}
use Rattle.closures.proofs.Exact.{reading-masked, reading-phase}
use Rattle.closures.proofs.reading.Goals as goal

small : (k : ℤ) → SFits w32 k → nat_abs k < 2 ^ 53
small (pos n) f = omega (arith, f.sfits)
small (negsuc n) f = omega (arith, f.sfits)

-- a test of the bits is one of the count
is-of-bits : (k : ℤ) → SFits w32 k → of_z w32 k ≡ 65536 → k ≡ pos 65536
is-of-bits k f e = sym (to_z-of_z w32 k f) ∙ ap (to_z w32) e

bits-of-is : (k : ℤ) → k ≡ pos 65536 → of_z w32 k ≡ 65536
bits-of-is k e = ap (of_z w32) e

pub returns-then-count-eq65536 : goal.returns-then-count-eq65536
returns-then-count-eq65536 c = reading-masked c.args.count (is-of-bits c.args.count c.ranges.count c.if-count-eq65536.true)

pub returns : goal.returns
returns c =
    let k = c.args.count in
    let f = c.ranges.count in
    rw (to_z-of_z w32 k f) (reading-phase k (small k f) (λ e. c.if-count-eq65536.false (bits-of-is k e)))
