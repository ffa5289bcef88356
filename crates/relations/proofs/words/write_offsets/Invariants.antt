-- The invariant: the offsets so far are written.
use Prim.Native.Nat.{◌+◌}
use Rattle.relations.proofs.Stepping.{Stepping}
use Rattle.relations.proofs.words.write_offsets.Given as goal

abbrev pub invariant-loop-i : goal.invariant-loop-i
invariant-loop-i l = Stepping l.initial.book l.first (l.n + 1) l.size l.book l.i
