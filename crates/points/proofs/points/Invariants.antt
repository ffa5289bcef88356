-- i rows and i + 1 offsets are written, and no more than i stamps are used.
use Rattle.std.proofs.Common.{◌+◌, ◌≤◌}
use Rattle.merging.specs.Near.{near_row}
use Rattle.relations.proofs.Filled.{Filled}
use Rattle.points.proofs.points.Given as goal

abbrev pub invariant-loop-i : goal.invariant-loop-i
invariant-loop-i l = (l.stamps.stamp ≤ l.i + 1) × Filled (near_row l.initial.book l.own.at.0 l.own.rows l.back.at.0 l.back.rows) l.own.rows l.dst.0 l.initial.book l.book l.i l.at.0
