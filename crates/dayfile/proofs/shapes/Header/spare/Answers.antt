-- A part of the first 32 bits, by shifting and a remainder.
use Rattle.rules.specs.File.{head_spare}
use borrow.Author.Rules.{rules}
use Rattle.dayfile.proofs.shapes.Header.spare.Goals as goal

pub returns : goal.returns
unfolding head_spare
returns c = search rules
