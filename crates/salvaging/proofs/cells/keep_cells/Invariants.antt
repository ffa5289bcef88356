-- The invariant: the cells passed are kept or told why not, and those kept are looked among.
use mathlib.Core.List.{map}
use Rattle.salvaging.specs.Reasons.{why_number}
use Rattle.salvaging.specs.Looked.{Looked}
use Rattle.salvaging.proofs.Keeping.{Kept}
use Rattle.salvaging.proofs.cells.keep_cells.Given as goal

abbrev pub invariant-loop-c : goal.invariant-loop-c
invariant-loop-c l = Looked l.file.bytes.now l.seen.rows l.seen.heads l.seen.next l.c l.seen.count × Kept l.file.bytes.now l.vertices (map why_number l.whys) l.c l.seen.count
