-- `boxes::lower` meets its contract: each branch returns what `cond` picks where the test is as it found it.
use Rattle.rules.specs.Boxes.{replaced}
use Rattle.boxes.proofs.lower.Goals as goal

pub returns-then-x-end : goal.returns-then-x-end
unfolding replaced
returns-then-x-end c = rw c.if-x-end.true

pub returns-else-x-end : goal.returns-else-x-end
unfolding replaced
returns-else-x-end c = rw c.if-x-end.false
