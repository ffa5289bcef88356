-- A power of two below 2^32 is no zero.
use Prim.Native.Nat.{◌*◌, ◌%◌, ◌^◌}
use mathlib.Core.Path.{◌≡◌}
use native.Mathlib.Nat.{one-mul, mod-eq_of_lt}
use Rattle.rules.proofs.Masks.{one-small, pow_pos}
use Rattle.dayfile.proofs.head.Field.of.Goals as goal

pub nonzero_rem-result : goal.nonzero_rem-result
nonzero_rem-result c =
    let w = c.args.self.width in
    let p : (1 * 2 ^ w) % 2 ^ 32 ≡ 2 ^ w = rw one-mul (mod-eq_of_lt (one-small w 32 c.requires.1.0)) in
    rw p (pow_pos w)
