-- Bits replaced in one byte are a field; past the end nothing is written.
use mathlib.Core.Path.{sym}
use Prim.Native.Nat.{◌+◌, ◌*◌}
use native.Mathlib.Omega.{arith}
use Rattle.rules.proofs.BitsWritten.{with-past}
use Rattle.bits.proofs.Patching.{set-field, patched-fits}
use Rattle.bits.proofs.writing.put_bits.Goals as goal

pub overflow_cast-bytes : goal.overflow_cast-bytes
overflow_cast-bytes c =
    let a = c.args in
    rw (c.patch.ensures, c.byte_at-old.ensures.value)
    (record { fits = patched-fits a.bytes.now (λ i. (c.slice_known-1.given i).fits) a.at (omega arith) a.from a.n a.x (omega arith) })

pub returns-then-at-bytes : goal.returns-then-at-bytes
returns-then-at-bytes c =
    let a = c.args in
    rw (c.patch.ensures, c.byte_at-old.ensures.value)
    (set-field a.bytes.now (λ i. (c.slice_known-1.given i).fits) a.at (omega arith) a.from a.n a.x (omega arith))

pub returns-else-at-bytes : goal.returns-else-at-bytes
returns-else-at-bytes c =
    let a = c.args in
    sym (with-past a.bytes.now (8 * a.at + a.from) a.n a.x (λ i. (c.type_inv.bytes i).fits) (omega arith))
