-- One cell, or two with the words between them.
use native.Mathlib.Omega.{arith}
use borrow.Author.Tests.{eq-eqb, ne_eqb}
use Rattle.report.proofs.Putting.{puts-within, puts_then}
use Rattle.telling.specs.Words.{bytes_of, cells_named}
use Rattle.telling.proofs.puts.put_cells.Goals as goal

pub returns-then-first-last : goal.returns-then-first-last
unfolding cells_named bytes_of
returns-then-first-last c = rw (eq-eqb _ _ c.if-first-last.true) (puts-within 30 (omega arith) (puts_then c.put_text.ensures c.put_number.ensures))

pub returns : goal.returns
unfolding cells_named bytes_of
returns c = rw (ne_eqb _ _ c.if-first-last.false) (puts_then c.put_text-2.ensures (puts_then c.put_number-2.ensures (puts_then c.put_text-3.ensures c.put_number-3.ensures)))
