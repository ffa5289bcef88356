-- The invariant: the cells passed are put down.
use Rattle.dayfile.specs.Words.{Put}
use Rattle.dayfile.proofs.faults.put_cells.Given as goal

abbrev pub invariant-loop-c : goal.invariant-loop-c
invariant-loop-c l = Put l.file l.initial.words l.words l.c
