-- The invariant: the first k bytes are taken, of the n that have a bit of the field.
use Rattle.bits.specs.Fetches.{Window}
use Rattle.bits.proofs.reading.take_last.Given as goal

abbrev pub invariant-loop-k : goal.invariant-loop-k
invariant-loop-k l = Window l.bytes l.at l.k l.taken.value l.taken.fetches
