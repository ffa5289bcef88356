-- What is built from the cells so far is counted.
use Rattle.std.proofs.Common.{◌≡◌, ◌+◌, [], length}
use Rattle.rules.specs.Made.{built}
use Rattle.plain.specs.Cells.{cells_before}
use Rattle.plain.proofs.numbering.seek.Given as goal

abbrev pub invariant-loop-c : goal.invariant-loop-c
invariant-loop-c l = l.left + length (built l.dim [] (cells_before (l.mesh.sizes.dim + 1) l.mesh.words.now l.c)) ≡ l.initial.left
