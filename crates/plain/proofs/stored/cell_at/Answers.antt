-- The first k words are the cell's.
use Rattle.std.proofs.Common.{◌≡◌, arith}
use Rattle.plain.specs.Cells.{cell_at}
use Rattle.plain.proofs.stored.cell_at.Goals as goal

pub returns : goal.returns
unfolding cell_at
returns c =
    let e : c.loop-k.k ≡ c.args.size = omega arith in
    rw e at c.loop-k.invariant.1
