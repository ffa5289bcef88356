-- The words so far are counted.
use Rattle.plain.proofs.Uses.{Counted}
use Rattle.plain.proofs.chains.count_uses.Given as goal

abbrev pub invariant-loop-word : goal.invariant-loop-word
invariant-loop-word l = Counted l.cells l.many l.word-index
