-- The bits that go are in the byte, and the bits that come have room.
use native.Mathlib.Omega.{arith}
use Rattle.bits.specs.Patches.{patched}
use Rattle.bits.proofs.Room.{weight-most, part-below, part-most}
use Rattle.bits.proofs.writing.patch.Goals as goal

pub returns : goal.returns
unfolding patched
returns c = rw (c.weight-w.ensures, c.weight-m.ensures)
