-- D and N_0 are the head's own, and fit their fields.
use native.Mathlib.Omega.{arith}
use Prim.Native.Nat.{◌<◌}
use borrow.Author.Rules.{rules}
use Rattle.rules.proofs.Head.{head-dim-below, head-vertices-below}
use Rattle.salvaging.proofs.corrected.Goals as goal

pub new-requires : goal.new-requires
new-requires c =
    let h = c.args.head.0 in
    let w : h < 4294967296 = search rules in
    (omega (arith, c.dimension.ensures, head-dim-below h w), (omega (arith, c.vertices.ensures, head-vertices-below h), omega arith))
