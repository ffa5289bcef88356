-- The key is its definition.
use borrow.Author.Rules.{rules}
use Rattle.rules.specs.Book.{key}
use Rattle.book.proofs.key.Goals as goal

pub returns : goal.returns
unfolding key
returns c = search rules
