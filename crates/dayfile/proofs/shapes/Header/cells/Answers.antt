-- A part of the first 32 bits, by shifting and a remainder.
use Rattle.rules.specs.File.{head_cells}
use borrow.Author.Rules.{rules}
use Rattle.dayfile.proofs.shapes.Header.cells.Goals as goal

pub returns : goal.returns
unfolding head_cells
returns c = search rules
