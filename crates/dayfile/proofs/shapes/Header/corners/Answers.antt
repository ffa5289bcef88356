-- A dimension is at most 3.
use Rattle.rules.specs.File.{head_dim}
use native.Mathlib.Omega.{arith}
use Rattle.dayfile.proofs.shapes.Header.corners.Goals as goal

pub returns : goal.returns
unfolding head_dim
returns c = record { corners = omega (arith, c.dimension.ensures); few = omega (arith, c.dimension.ensures) }
