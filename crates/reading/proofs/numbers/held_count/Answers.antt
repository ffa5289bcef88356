-- The frame rule decides; then the keys held are counted.
use Rattle.book.proofs.Flags.{off, on}
use Rattle.reading.proofs.NumberCases.{held-10, held-0}
use Rattle.reading.proofs.numbers.held_count.Goals as goal

pub returns-then-not-frame_right-clause-number : goal.returns-then-not-frame_right-clause-number
returns-then-not-frame_right-clause-number c = held-10 c.args.book.now (off c.frame_right.ensures c.if-not-frame_right.true)

pub returns-clause-number : goal.returns-clause-number
returns-clause-number c = held-0 c.args.book.now (on c.frame_right.ensures c.if-not-frame_right.false)
