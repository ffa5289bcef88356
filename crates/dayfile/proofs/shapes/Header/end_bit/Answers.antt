-- 32 bits, then 13 for each vertex of each cell.
use Prim.Native.Nat.{◌*◌}
use native.Mathlib.Omega.{arith}
use Rattle.rules.specs.File.{bits_of}
use Rattle.rules.proofs.Head.{head-cells-below}
use Rattle.dayfile.proofs.Bounds.{product-below}
use Rattle.dayfile.proofs.shapes.Header.end_bit.Goals as goal

pub overflow_mul-result-2 : goal.overflow_mul-result-2
overflow_mul-result-2 c = omega (arith, product-below (13 * c.corners.result) c.cells.result (omega arith) (omega (arith, c.cells.ensures, head-cells-below c.args.self.0)))

pub overflow_add-result : goal.overflow_add-result
overflow_add-result c = omega (arith, product-below (13 * c.corners.result) c.cells.result (omega arith) (omega (arith, c.cells.ensures, head-cells-below c.args.self.0)))

pub returns : goal.returns
unfolding bits_of
returns c = rw (c.corners.ensures.corners, c.cells.ensures)
