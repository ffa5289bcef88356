-- All that is wanted is held, or the head and the relations that it names are given back.
use mathlib.Core.Path.{sym, ◌∙◌}
use Rattle.rules.proofs.FrameRule.{framed}
use Rattle.making.proofs.Reached.{all_held, leaves, given-back, five-words}
use Rattle.making.proofs.ask_for.Goals as goal

pub give_back-requires : goal.give_back-requires
give_back-requires c = leaves _ _ c.requires _ _ c.hold-answer.ensures (sym c.is_err.ensures.value ∙ c.if-is_err.true) _ c.word-2.ensures

pub returns-then-is_err-clause-words : goal.returns-then-is_err-clause-words
returns-then-is_err-clause-words c =
    let s = c in
    given-back _ _ s.requires _ _ c.hold-answer.ensures (sym c.is_err.ensures.value ∙ c.if-is_err.true) _ _
    (five-words s.args.book.now (framed s.args.book.now s.requires.frame).long _ _ _ _ _ c.word.ensures c.word-2.ensures c.word-3.ensures c.word-4.ensures c.word-5.ensures)
    c.give_back.ensures

pub returns-else-is_err-clause-words : goal.returns-else-is_err-clause-words
returns-else-is_err-clause-words c = all_held _ _ c.requires _ _ c.hold-answer.ensures (sym c.is_err.ensures.value ∙ c.if-is_err.false)
