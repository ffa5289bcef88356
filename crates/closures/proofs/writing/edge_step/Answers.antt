-- `closures::writing::edge_step` meets its contract: its two counts may be lent, so the step between their readings is exact.
use Prim.Native.Nat.{◌<◌}
use native.Mathlib.Omega.{arith}
use lib.ListN.{length}
use Rattle.rules.specs.Closures.{count_at}
use Rattle.closures.proofs.Rowing.{count-right}
use Rattle.closures.proofs.writing.edge_step.Goals as goal

pub returns : goal.returns
unfolding count_at
returns c =
    let edge = c.args.edge.now in
    let rows = c.requires in
    let low : 0 < length edge = omega (arith, rows.sized) in
    let high : 1 < length edge = omega (arith, rows.sized) in
    let right = count-right 2 1 edge c.args.counts.now rows in
    c.step.ensures.counts _ _ (right 0 low) (right 1 high) c.reading_at-lower.ensures c.reading_at-higher.ensures
