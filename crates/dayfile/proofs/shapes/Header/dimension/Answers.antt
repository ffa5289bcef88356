-- A part of the first 32 bits, by shifting and a remainder.
use Rattle.rules.specs.File.{head_dim}
use borrow.Author.Rules.{rules}
use Rattle.dayfile.proofs.shapes.Header.dimension.Goals as goal

pub returns : goal.returns
unfolding head_dim
returns c = search rules
