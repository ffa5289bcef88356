-- The refusal, or each line that holds, one behind the other.
use native.Mathlib.Omega.{arith}
use borrow.Author.Tests.{ne_eqb}
use Rattle.report.proofs.Putting.{puts_then, puts-within}
use Rattle.telling.specs.Words.{bytes_of, spare_line, pad_line, length_line}
use Rattle.telling.specs.Program.{last_words}
use Rattle.telling.proofs.ends.put_outcome.Goals as goal

pub returns-then-outcome-ne0 : goal.returns-then-outcome-ne0
unfolding last_words
returns-then-outcome-ne0 c = rw (ne_eqb c.args.outcome.number 0 c.if-outcome-ne0.true) (puts-within 148 (omega arith) c.put_refusal.ensures)

pub returns : goal.returns
unfolding last_words spare_line pad_line length_line bytes_of
returns c = rw c.if-outcome-ne0.false (puts_then c.put_if.ensures (puts_then c.put_if-2.ensures (puts_then c.put_if-3.ensures c.put_kept.ensures)))
