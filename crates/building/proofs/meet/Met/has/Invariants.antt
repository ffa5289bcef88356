-- The candidate is among the entities before the walk's place exactly where it is among all.
use Rattle.std.proofs.Common.{get_or}
use Rattle.repeats.proofs.Walked.{Walking}
use Rattle.building.specs.Sets.{entity, lowest}
use Rattle.building.proofs.meet.Met.has.Given as goal

abbrev pub invariant-loop-p : goal.invariant-loop-p
invariant-loop-p l = Walking (lowest l.self-inside.sets) (get_or l.candidate 0 0) (entity l.self-inside.sets) l.candidate l.initial.p l.p

abbrev pub decreases-loop-p : goal.decreases-loop-p
decreases-loop-p l = l.p
