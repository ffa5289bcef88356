-- They are all that is put.
use borrow.Author.Rules.{rules}
use Rattle.report.proofs.Putting.{puts_printed}
use Rattle.telling.proofs.ends.last_words.Goals as goal

pub returns : goal.returns
returns c = search (rules, puts_printed)
