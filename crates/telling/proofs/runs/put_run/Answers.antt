-- The cells, the reason and its number, and the words around them.
use mathlib.Core.Path.{◌≡◌, ap, ◌∙◌}
use borrow.Author.Rules.{rules}
use Rattle.report.proofs.Putting.{puts-within, puts_then, puts_printed}
use Rattle.salvaging.specs.Reasons.{reason_number}
use Rattle.telling.specs.Words.{bytes_of, reason, run_line}
use Rattle.telling.proofs.Reasoned.{reason-back}
use Rattle.telling.proofs.runs.put_run.Goals as goal

pub returns : goal.returns
unfolding run_line bytes_of
returns c =
    let words : c.reason.result.now ≡ reason c.args.why = c.reason.ensures.words ∙ ap (λ r. reason (reason_number r)) c.from.ensures ∙ reason-back c.args.why in
    let why = rw words at (puts-within 24 c.reason.ensures.short c.put_text-2.ensures) in
    let put = puts_then c.put_cells.ensures (puts_then c.put_text.ensures (puts_then why (puts_then c.put_text-3.ensures (puts_then c.put_number.ensures c.put_text-4.ensures)))) in
    search (rules, puts_printed)
