-- Each run is taken off the front of what is left, which is a part of the list.
use Rattle.std.proofs.Common.{◌≤◌, length}
use Rattle.daysalvage.proofs.tell_runs.Given as goal

abbrev pub invariant-loop-rest : goal.invariant-loop-rest
invariant-loop-rest g l = length l.rest ≤ length l.dropped

abbrev pub decreases-loop-rest : goal.decreases-loop-rest
decreases-loop-rest g l = length l.rest
