-- Before each turn, what is left to ask gives what all asks together give.
use mathlib.Core.Path.{sym, ap, ◌∙◌}
use native.Mathlib.Omega.{arith}
use Rattle.kinds.specs.Refusals.{answer_number}
use Rattle.kinds.proofs.Determined.{handed-on, refused-accepted}
use Rattle.answering.specs.Program.{all_number, all_words}
use Rattle.answering.proofs.Asking.{asking, asked_more, refused_number, refused_words, asked_number, asked_words}
use Rattle.answering.proofs.ask_all.Goals as goal

pub loop-k-init : goal.loop-k-init
loop-k-init c = asking _ _

pub returns-in_err-ask_key : goal.returns-in_err-ask_key
unfolding all_number all_words
returns-in_err-ask_key c =
    let turn = c.loop-k in
    let one = c.in_err-ask_key.ensures in
    let top = c.dim-top.ensures in
    let h = handed-on c.from_residual.result c.in_err-ask_key.field-0.0 c.from_residual.ensures.1 in
    record {
      number = ap answer_number h ∙ rw (← top) (one.number ∙ refused_number turn.invariant (omega arith) (λ e. refused-accepted _ (one.number ∙ e)));
      words = rw (← top) (one.words ∙ refused_words turn.invariant (omega arith) (λ e. refused-accepted _ (one.number ∙ e)));
    }

pub loop-k-preserved : goal.loop-k-preserved
loop-k-preserved c = let one = c.in_ok-ask_key.ensures in rw one.words (asked_more c.loop-k.invariant (omega arith) (sym one.number))

pub returns : goal.returns
unfolding all_number all_words
returns c =
    let top = c.dim-top.ensures in record { number = rw (← top) (asked_number c.loop-k.invariant (omega arith)); words = rw (← top) (asked_words c.loop-k.invariant (omega arith)) }
