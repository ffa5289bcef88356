-- Before each turn, what is left to ask gives what all asks together give.
use Rattle.answering.proofs.Asking.{Asking}
use Rattle.answering.proofs.ask_all.Given as goal

abbrev pub invariant-loop-k : goal.invariant-loop-k
invariant-loop-k l = Asking l.top l.initial.book l.k l.book
