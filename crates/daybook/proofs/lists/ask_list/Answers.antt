-- Each of the three ways to go gives what the list has to give.
use mathlib.Core.Path.{sym, ap, ◌∙◌}
use lib.ListN.{length, replicate}
use borrow.Author.Rules.{rules}
use Rattle.rules.proofs.Accepted.{pairs-two}
use Rattle.kinds.proofs.Determined.{refused-accepted}
use Rattle.daybook.proofs.ListCases.{list-refused, list-each, list-alike}
use Rattle.daybook.proofs.lists.ask_list.Goals as goal

pub returns-then-pairs_off : goal.returns-then-pairs_off
returns-then-pairs_off c =
    let g = list-refused c.args.book.now c.args.pairs.now c.args.answers.now (sym c.pairs_off.ensures ∙ c.if-pairs_off.true) in
    record { number = g.number_is; answers = g.answers-are; words = g.words_are }

pub ask_each-requires-clause-lengths : goal.ask_each-requires-clause-lengths
ask_each-requires-clause-lengths c = pairs-two _ _ (sym c.pairs_off.ensures ∙ c.if-pairs_off.false)

pub returns-in-Err : goal.returns-in-Err
returns-in-Err c =
    let n = c.in-Err.ensures.number in
    let g = list-alike c.args.book.now c.args.pairs.now c.args.answers.now (sym c.pairs_off.ensures ∙ c.if-pairs_off.false) (λ z. refused-accepted _ (n ∙ z)) _ (c.fill.ensures.after (search rules) ∙ ap (replicate (length c.args.answers.now)) (c.number.ensures ∙ n)) in
    record { number = g.number_is; answers = g.answers-are; words = g.words_are }

pub returns-in-Ok : goal.returns-in-Ok
returns-in-Ok c =
    let e = c.ask_each.ensures in
    let g = list-each c.args.book.now c.args.pairs.now c.args.answers.now (sym c.pairs_off.ensures ∙ c.if-pairs_off.false) _ _ e.answers e.words in
    record { number = g.number_is; answers = g.answers-are; words = g.words_are }
