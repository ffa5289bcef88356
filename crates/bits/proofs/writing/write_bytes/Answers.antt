-- The invariant: all but the last `left` bits stand, and the rest begins with byte `at`.
use mathlib.Core.Path.{◌≡◌, ap, ◌∙◌}
use Prim.Native.Nat.{◌+◌, ◌-◌, ◌*◌}
use native.Mathlib.Omega.{arith}
use lib.ListN.{length}
use Rattle.rules.proofs.BitsWritten.{length-with}
use Rattle.bits.proofs.Patching.{begun, next, last}
use Rattle.bits.proofs.writing.write_bytes.Goals as goal

pub loop-left-init : goal.loop-left-init
loop-left-init c =
    let a = c.args in
    (omega arith, (omega arith, (omega arith, begun a.bytes.now (8 * a.start) a.width a.value (λ i. (c.type_inv.bytes i).fits))))

pub loop-left-preserved : goal.loop-left-preserved
loop-left-preserved c =
    let a = c.args in
    let t = c.loop-left in
    let e : 8 + (t.left - 8) ≡ t.left = omega arith in
    (omega arith, (omega arith, (omega arith, next a.bytes.now (8 * a.start) a.width a.value (t.left - 8) 8 (8 * t.at + 0) t.bytes _ (rw e t.invariant.1.1.1) c.put_bits.ensures (omega arith) (omega arith))))

pub returns : goal.returns
returns c =
    let a = c.args in
    let t = c.loop-left in
    last a.bytes.now (8 * a.start) a.width a.value t.left (8 * t.at + 0) t.bytes _ t.invariant.1.1.1 c.put_bits-2.ensures (omega arith) (omega arith)
