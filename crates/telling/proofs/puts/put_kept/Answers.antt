-- Three numbers, and the words around them.
use Rattle.report.proofs.Putting.{puts_then}
use Rattle.telling.specs.Words.{bytes_of, kept_line}
use Rattle.telling.proofs.puts.put_kept.Goals as goal

pub returns : goal.returns
unfolding kept_line bytes_of
returns c =
    puts_then c.put_text.ensures (puts_then c.put_number.ensures
    (puts_then c.put_text-2.ensures (puts_then c.put_number-2.ensures (puts_then c.put_text-3.ensures (puts_then c.put_number-3.ensures c.put_text-4.ensures)))))
