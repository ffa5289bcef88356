-- `closures::whole` meets its contract: each branch returns what `cond` picks where the tests are as it found them.
use Rattle.closures.specs.Steps.{whole_turns}
use Rattle.closures.proofs.Literals.{none}
use Rattle.closures.proofs.whole.Goals as goal

pub returns-then-turns : goal.returns-then-turns
unfolding whole_turns
returns-then-turns c = rw (none, c.if-turns.true)

pub returns-then-turns-2 : goal.returns-then-turns-2
unfolding whole_turns
returns-then-turns-2 c = rw (none, c.if-turns.false, c.if-turns-2.true)

pub returns : goal.returns
unfolding whole_turns
returns c = rw (none, c.if-turns.false, c.if-turns-2.false)
