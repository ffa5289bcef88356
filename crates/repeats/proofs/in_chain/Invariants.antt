-- The invariant: the row is among those below the walk's place exactly where it is among all.
use Rattle.repeats.specs.Rows.{row_at, bucket_of, bucket_at}
use Rattle.repeats.proofs.Walked.{Walking}
use Rattle.repeats.proofs.in_chain.Given as goal

abbrev pub invariant-loop-p : goal.invariant-loop-p
invariant-loop-p l = Walking (bucket_at l.size l.words) (bucket_of l.row) (row_at l.size l.words) l.row l.from l.p

abbrev pub decreases-loop-p : goal.decreases-loop-p
decreases-loop-p l = l.p
