-- The invariant: the pairs before this one are asked for, and the book is right.
use Rattle.daybook.proofs.InTurn.{InTurn}
use Rattle.daybook.proofs.lists.ask_each.Given as goal

abbrev pub invariant-loop-pair : goal.invariant-loop-pair
invariant-loop-pair l = InTurn l.initial.book l.pairs l.initial.answers l.pair l.book l.answers
