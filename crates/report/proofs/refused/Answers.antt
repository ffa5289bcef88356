-- "refused", the number and the newline.
use borrow.Author.Rules.{rules}
use Rattle.report.proofs.Putting.{puts_printed}
use Rattle.report.proofs.Texts.{put-refused-line}
use Rattle.report.proofs.refused.Goals as goal

pub returns : goal.returns
returns c = let put = put-refused-line c.args.n c.put_text.ensures c.put_field.ensures c.put_byte.ensures in search (rules, puts_printed)
