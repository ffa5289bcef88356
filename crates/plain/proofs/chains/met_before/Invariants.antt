-- The invariant: the cells passed do not have the set.
use Prim.Native.Nat.{◌/◌}
use lib.ListN.{get_or}
use Rattle.plain.proofs.Links.{Walking}
use Rattle.plain.proofs.chains.met_before.Given as goal

abbrev pub invariant-loop-x : goal.invariant-loop-x
invariant-loop-x l = Walking l.cells l.size (l.at / l.size) (get_or l.cells l.at 0) l.set l.x

abbrev pub decreases-loop-x : goal.decreases-loop-x
decreases-loop-x l = l.x
