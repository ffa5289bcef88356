-- The six edges of a tetrahedron: three at its first corner, and those of the opposite face.
use Rattle.std.proofs.Common.{◌∙◌, arith}
use Rattle.rules.specs.Lists.{choose}
use Rattle.plain.proofs.Corners.{edge-behind}
use Rattle.plain.proofs.candidates.tetrahedron_edge.Goals as goal

pub returns-in-0 : goal.returns-in-0
unfolding choose
returns-in-0 c = rw c.in-0.is

pub returns-in-1 : goal.returns-in-1
unfolding choose
returns-in-1 c = rw c.in-1.is

pub returns-in-2 : goal.returns-in-2
unfolding choose
returns-in-2 c = rw c.in-2.is

pub returns-in_default : goal.returns-in_default
returns-in_default c =
    let a = c.args in
    c.triangle_edge.ensures ∙ edge-behind a.v a.w a.x a.y a.q (omega arith)
