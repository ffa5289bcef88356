-- The entities are those that Build meets in the cells so far.
use Rattle.building.proofs.Meeting.{Found}
use Rattle.building.proofs.meet.Met.meet_cells.Given as goal

abbrev pub invariant-loop-c : goal.invariant-loop-c
invariant-loop-c l = Found l.book l.cells.at.0 l.cells.rows l.d l.self l.c
