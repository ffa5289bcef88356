-- The entities are those met by the candidates so far.
use Rattle.std.proofs.Common.{◌≡◌, take}
use Rattle.rules.specs.Made.{met_all}
use Rattle.building.proofs.meet.Met.meet_cell.Given as goal

abbrev pub invariant-loop-candidate : goal.invariant-loop-candidate
invariant-loop-candidate l = l.self ≡ met_all l.initial.self (take l.candidate-index l.candidates)
