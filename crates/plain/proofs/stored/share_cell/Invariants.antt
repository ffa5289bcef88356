-- None of the cells so far has both.
use Rattle.std.proofs.Common.{◌≡◌, false}
use mathlib.Core.Bool.{◌&&◌}
use Rattle.rules.specs.Lists.{any_of, has}
use Rattle.plain.specs.Cells.{cells_before}
use Rattle.plain.proofs.stored.share_cell.Given as goal

abbrev pub invariant-loop-b : goal.invariant-loop-b
invariant-loop-b l = any_of (λ s. has l.u s && has l.v s) (cells_before l.size l.cells l.b) ≡ false
