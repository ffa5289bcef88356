-- D is the head of word 0.
use borrow.Author.Rules.{rules}
use Rattle.rules.specs.Book.{dim}
use Rattle.book.proofs.dim.Goals as goal

pub returns : goal.returns
unfolding dim
returns c = search rules
