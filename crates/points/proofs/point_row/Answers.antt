-- Both ways write the row of the rules; a merge sets no stamp.
use Rattle.std.proofs.Common.{arith}
use Rattle.merging.proofs.Standing.{row-rises, row-length}
use Rattle.points.proofs.point_row.Goals as goal

pub overflow_sub-to : goal.overflow_sub-to
overflow_sub-to c =
    row-rises _ _ _ _ _ _ c.requires.around.through (omega arith) c.args.i.0 c.requires.row _ _ c.start-from.ensures c.start-to.ensures

pub neighbour_row-requires : goal.neighbour_row-requires
neighbour_row-requires c =
    let q = c.requires in
    let l = row-length _ _ _ _ _ _ q.around.through (omega arith) c.args.i.0 q.row _ _ c.start-from.ensures c.start-to.ensures in
    record { through = q.around.through; row = q.row; few = omega (arith, l, c.if-to-from-le4.true); fits = omega (arith, q.around.most, q.place) }
