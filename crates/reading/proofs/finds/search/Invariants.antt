-- The invariant: every index passed is below j. So the first that is not stops the search where the leading ones end.
use Prim.Native.Nat.{ℕ, ◌<◌}
use lib.ListN.{get_or}
use Rattle.reading.proofs.finds.search.Given as goal

abbrev pub invariant-loop-read : goal.invariant-loop-read
invariant-loop-read l = (q : ℕ) → q < l.read → get_or l.row q 0 < l.j
