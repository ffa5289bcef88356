-- The candidates so far that no cell before has are counted.
use Rattle.std.proofs.Common.{◌≡◌, ◌+◌, length}
use Rattle.plain.specs.Cells.{news}
use Rattle.plain.proofs.numbering.seek_in_cell.Given as goal

abbrev pub invariant-loop-q : goal.invariant-loop-q
invariant-loop-q l = l.left + length (news l.top l.d l.mesh.words.now l.c l.q) ≡ l.initial.left
