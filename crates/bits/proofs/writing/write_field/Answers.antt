-- The field lies in one byte, or its first bits end one and the rest begins with the next.
use mathlib.Core.Path.{◌≡◌, sym, ◌∙◌}
use Prim.Native.Nat.{◌+◌, ◌-◌, ◌*◌, ◌/◌, ◌%◌}
use native.Mathlib.Omega.{arith}
use Rattle.rules.proofs.BitsWritten.{with_none}
use Rattle.bits.proofs.Patching.{begun, next, last}
use Rattle.bits.proofs.writing.write_field.Goals as goal

pub returns-then-width-eq0 : goal.returns-then-width-eq0
returns-then-width-eq0 c =
    let a = c.args in
    let e : a.width ≡ 0 = omega arith in
    rw e (sym (with_none a.bytes.now a.bit a.value (λ i. (c.type_inv.bytes i).fits)))

pub returns : goal.returns
returns c =
    let a = c.args in
    let left = a.bit % 8 + a.width - 8 in
    let first = c.put_bits-2.ensures in
    let e : 8 - a.bit % 8 + left ≡ a.width = omega arith in
    let b = next a.bytes.now a.bit a.width a.value left (8 - a.bit % 8) (8 * (a.bit / 8) + a.bit % 8) a.bytes.now _ (rw e (begun a.bytes.now a.bit a.width a.value (λ i. (c.slice_known-1.given i).fits))) first (omega arith) (omega arith) in
    last a.bytes.now a.bit a.width a.value left (8 * (a.bit / 8 + 1)) _ _ b c.write_bytes.ensures (omega arith) (omega arith)
