-- What it means, and the words around that.
use Rattle.report.proofs.Putting.{puts-within, puts_then}
use Rattle.telling.specs.Words.{bytes_of, refusal_line}
use Rattle.telling.proofs.puts.put_refusal.Goals as goal

pub returns : goal.returns
unfolding refusal_line bytes_of
returns c = rw (← c.meaning.ensures.words) (puts_then c.put_text.ensures (puts_then (puts-within 23 c.meaning.ensures.short c.put_text-2.ensures) c.put_text-3.ensures))
