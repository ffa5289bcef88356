-- The bytes so far are a field of at most 32 bits, so the next byte has room behind them.
use mathlib.Core.Path.{sym}
use Prim.Native.Nat.{◌+◌, ◌*◌}
use native.Mathlib.Omega.{arith}
use Rattle.bits.specs.Fetches.{there}
use Rattle.bits.proofs.Room.{field-most}
use Rattle.bits.proofs.Counts.{there-more}
use Rattle.bits.proofs.Windows.{window_more}
use Rattle.bits.proofs.reading.one_more.Goals as goal

pub overflow_mul-value : goal.overflow_mul-value
overflow_mul-value c =
    let a = c.args in
    omega (arith, c.requires.1.1.number, field-most a.bytes.now (8 * a.at) (8 * a.k) 32 (omega arith))

pub overflow_add-value : goal.overflow_add-value
overflow_add-value c =
    let a = c.args in
    let h = c.requires.1.1.number in
    omega (arith, h, field-most a.bytes.now (8 * a.at) (8 * a.k) 32 (omega arith), c.byte_at-next.ensures.value, c.type_inv.bytes (a.at + a.k))

pub overflow_add-fetches : goal.overflow_add-fetches
unfolding there
overflow_add-fetches c = omega (arith, c.requires.1.1.counted, c.byte_at-next.ensures.fetches)

pub returns : goal.returns
returns c =
    let a = c.args in
    let so_far = c.requires.1.1 in
    let next = c.byte_at-next.ensures in
    record {
      number = rw (so_far.number, next.value) (sym (window_more a.bytes.now (λ i. (c.type_inv.bytes i).fits) a.at a.k));
      counted = rw (so_far.counted, next.fetches) (there-more _ a.at a.k);
    }
