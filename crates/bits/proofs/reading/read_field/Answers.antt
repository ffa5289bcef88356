-- A field of up to 32 bits fits a word.
use native.Mathlib.Omega.{arith}
use Rattle.bits.proofs.Room.{field-most}
use Rattle.bits.proofs.reading.read_field.Goals as goal

pub overflow_cast-result : goal.overflow_cast-result
overflow_cast-result c = let a = c.args in omega (arith, c.take_field.ensures.number, field-most a.bytes.now a.bit a.width 32 (omega arith))
