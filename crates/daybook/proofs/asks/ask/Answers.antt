-- A broken book is refused as its words decide; then Ask in a right one.
use mathlib.Core.Path.{◌∙◌}
use Rattle.rules.specs.Calls.{ask_number, ask_rules, ask_words}
use Rattle.rules.proofs.Told.{right-none, untold-none}
use Rattle.right.proofs.Checks.{refuses}
use Rattle.daybook.proofs.asks.ask.Goals as goal

pub returns-in_err-check : goal.returns-in_err-check
unfolding ask_number ask_rules ask_words
returns-in_err-check c =
    let r = refuses c.args.book.now _ _ _ c.from_residual.ensures.1 c.in_err-check.ensures.number c.in_err-check.ensures.place in
    record { number = r.number; place = r.place; words = rw r.some }

pub returns : goal.returns
returns c =
    let e = c.ask_right.ensures in
    let r = rw c.in_ok-check.ensures.words at c.in_ok-check.ensures.right in
    record { number = e.number; place = e.place ∙ untold-none _ _ (right-none c.args.book.now r.frame r.rows); words = e.words }
