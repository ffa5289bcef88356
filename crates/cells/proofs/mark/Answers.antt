-- The invariant: the vertices listed before the loop's place are marked, and no others are touched.
use mathlib.Core.Path.{ap, ◌∙◌}
use mathlib.Core.List.{List}
use Prim.Native.Nat.{ℕ}
use native.Mathlib.Omega.{arith}
use lib.ListN.{get_or, set}
use lib.Dec.{ltb}
use borrow.Author.Tests.{ltb-true}
use Rattle.rules.proofs.Tests.{all-place}
use Rattle.cells.proofs.Marks.{stamped-none, stamped-next}
use Rattle.cells.proofs.mark.Goals as goal

pub loop-v-init : goal.loop-v-init
loop-v-init c = stamped-none c.args.marks.now c.args.vertices.now 1

pub bounds-marks-v : goal.bounds-marks-v
bounds-marks-v c = ltb-true _ _ (all-place (λ v. ltb v 8192) c.args.vertices.now 0 c.requires c.loop-v.v-index (omega arith))

pub loop-v-preserved : goal.loop-v-preserved
loop-v-preserved c =
    let l = c.loop-v in
    let vs = c.args.vertices.now in
    ap (λ (m : List ℕ). set m (get_or vs l.v-index 0) 1) l.invariant ∙ stamped-next _ vs 1 l.v-index (omega arith)
