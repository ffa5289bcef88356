-- i rows and i + 1 offsets are written.
use Rattle.intersecting.specs.Inner.{inner_row}
use Rattle.relations.proofs.Filled.{Filled}
use Rattle.intersecting.proofs.inner.Given as goal

abbrev pub invariant-loop-i : goal.invariant-loop-i
invariant-loop-i l = Filled (inner_row l.initial.book l.own.at.0 l.own.rows l.back.at.0 l.back.rows l.sub.at.0 l.sub.rows) l.own.rows l.start l.initial.book l.book l.i l.at
