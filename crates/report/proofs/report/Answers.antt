-- The mesh at the front, and the relations behind it.
use borrow.Author.Rules.{rules}
use Rattle.report.specs.Lines as lines
use Rattle.report.proofs.Putting.{puts_then, puts_printed}
use Rattle.report.proofs.report.Goals as goal

pub returns : goal.returns
unfolding lines.report
returns c = let put = puts_then c.put_mesh.ensures c.put_relations.ensures in search (rules, puts_printed)
