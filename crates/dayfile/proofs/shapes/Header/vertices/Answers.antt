-- A part of the first 32 bits, by shifting and a remainder.
use Rattle.rules.specs.File.{head_vertices}
use borrow.Author.Rules.{rules}
use Rattle.dayfile.proofs.shapes.Header.vertices.Goals as goal

pub returns : goal.returns
unfolding head_vertices
returns c = search rules
