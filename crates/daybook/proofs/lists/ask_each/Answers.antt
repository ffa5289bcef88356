-- The invariant: the pairs before this one are asked for, and the book is right.
use mathlib.Core.Path.{◌∙◌}
use native.Mathlib.Omega.{arith}
use Rattle.daybook.proofs.InTurn.{turn_more, turn-all}
use Rattle.daybook.proofs.lists.ask_each.Goals as goal

pub loop-pair-preserved : goal.loop-pair-preserved
loop-pair-preserved c =
    let t = c.loop-pair in
    let a = c.ask_right-answer.ensures in
    turn_more _ _ _ t.pair _ _ t.invariant (omega arith) (omega arith) _ (c.number_of.ensures ∙ a.number) _ a.words

pub returns : goal.returns
returns c = let t = c.loop-pair in let all = turn-all _ _ _ t.pair _ _ t.invariant (omega arith) (omega arith) in record { answers = all.0; words = all.1 }
