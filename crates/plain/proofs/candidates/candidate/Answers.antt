-- The three cases: a triangle's edges, a tetrahedron's edges, a tetrahedron's faces.
use Rattle.plain.proofs.Corners.{few-sides, few-edges, few-faces}
use Rattle.plain.proofs.candidates.candidate.Goals as goal

pub triangle_edge-requires : goal.triangle_edge-requires
triangle_edge-requires c = few-sides c.requires c.if-top-eq2.true

pub tetrahedron_edge-requires : goal.tetrahedron_edge-requires
tetrahedron_edge-requires c = few-edges c.requires c.if-top-eq2.false c.if-d-eq1.true

pub face-requires : goal.face-requires
face-requires c = few-faces c.requires c.if-top-eq2.false c.if-d-eq1.false
