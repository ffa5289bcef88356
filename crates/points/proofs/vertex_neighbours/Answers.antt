-- A book that is ready for 0→0 has sources that can be gathered, and the rows written are the rows that the rules make.
use Rattle.relations.proofs.Right.{used-fits}
use Rattle.points.proofs.Made.{ready-points, points-made}
use Rattle.points.proofs.vertex_neighbours.Goals as goal

pub points-requires : goal.points-requires
points-requires c =
    let a = c.requires.ready in let s = c.requires.own in let t = c.requires.back in record { around = ready-points a s t; place = used-fits a }

pub returns : goal.returns
returns c =
    let a = c.requires.ready in let s = c.requires.own in let t = c.requires.back in
    rw (points-made a s t) at c.points.ensures
