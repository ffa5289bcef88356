-- The invariant: the first k bytes are taken, of the n that have a bit of the field.
use mathlib.Core.Path.{◌≡◌}
use Prim.Native.Nat.{◌+◌, ◌-◌, ◌*◌, ◌/◌, ◌%◌}
use native.Mathlib.Omega.{arith}
use Rattle.bits.proofs.Windows.{window-none, read-within}
use Rattle.bits.proofs.reading.take_last.Goals as goal

pub loop-k-init : goal.loop-k-init
loop-k-init c = window-none _ _

pub returns : goal.returns
returns c =
    let a = c.args in
    let t = c.loop-k in
    let n = (a.bit % 8 + a.width + 7) / 8 in
    let e : t.k ≡ n = omega arith in
    read-within a.bytes.now a.bit a.width n (8 * n - (a.bit % 8 + a.width)) _ _ (omega arith) (omega arith) (omega arith) (rw e at t.invariant) c.part.ensures
