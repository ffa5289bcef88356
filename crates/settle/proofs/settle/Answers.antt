-- What is left to settle gives the words wanted. The measure is what lies between the front and the end.
use Rattle.settle.proofs.Settling.{settling-all, settling-part}
use Rattle.settle.proofs.settle.Goals as goal

pub loop-block-preserved-then-front-middle : goal.loop-block-preserved-then-front-middle
loop-block-preserved-then-front-middle c = let l = c in
    settling-all l.loop-block.invariant l.requires.1.inside c.exchange.ensures c.min-block.ensures c.if-front-middle.true

pub loop-block-preserved : goal.loop-block-preserved
loop-block-preserved c = let l = c in
    settling-part l.loop-block.invariant l.requires.1.inside c.exchange.ensures c.min-block.ensures c.if-front-middle.false
