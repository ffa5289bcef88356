-- What is left to settle gives the words wanted. The measure is what lies between the front and the end.
use Prim.Native.Nat.{◌-◌}
use Rattle.settle.proofs.Settling.{Settling}
use Rattle.settle.proofs.settle.Given as goal

abbrev pub invariant-loop-block : goal.invariant-loop-block
invariant-loop-block l = Settling l.initial.book l.initial.front l.initial.middle l.last l.front l.middle l.book

abbrev pub decreases-loop-block : goal.decreases-loop-block
decreases-loop-block l = l.last - l.front
