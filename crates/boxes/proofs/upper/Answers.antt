-- `boxes::upper` meets its contract: each branch returns what `cond` picks where the test is as it found it.
use Rattle.rules.specs.Boxes.{greater, replaced}
use Rattle.boxes.proofs.upper.Goals as goal

pub returns-then-end-x : goal.returns-then-end-x
unfolding replaced greater
returns-then-end-x c = rw c.if-end-x.true

pub returns-else-end-x : goal.returns-else-end-x
unfolding replaced greater
returns-else-end-x c = rw c.if-end-x.false
