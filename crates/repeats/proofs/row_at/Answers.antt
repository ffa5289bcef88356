-- The part from the row's first word on.
use mathlib.Core.Path.{◌≡◌}
use Prim.Native.Nat.{◌+◌, ◌-◌, ◌*◌}
use native.Mathlib.Omega.{arith}
use Rattle.repeats.specs.Rows.{row_at}
use Rattle.repeats.proofs.row_at.Goals as goal

pub returns : goal.returns
unfolding row_at
returns c =
    let a = c.args in
    let e : a.size * a.i + a.size - a.size * a.i ≡ a.size = omega arith in
    rw e
