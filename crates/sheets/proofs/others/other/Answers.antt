-- The invariant: the cells passed are the one itself.
use Prim.Native.Nat.{◌≤◌}
use native.Mathlib.Omega.{arith}
use lib.ListN.{length}
use Rattle.rules.specs.Sheet.{cells_at, across_at}
use Rattle.sheets.proofs.Looked.{first-other, none-other}
use Rattle.sheets.proofs.others.other.Goals as goal

pub returns-then-j-c : goal.returns-then-j-c
unfolding across_at
returns-then-j-c c =
    let row = cells_at c.args.triangles.now.book.now c.args.k in
    let e = c.cells-j-items.ensures in
    let i = c.loop-j.j-index in
    rw e (first-other row c.args.c i (rw e at c.loop-j-test.true) c.loop-j.invariant (rw e at c.if-j-c.true))

pub returns : goal.returns
unfolding across_at
returns c =
    let row = cells_at c.args.triangles.now.book.now c.args.k in
    let n : length row ≤ c.loop-j.j-index = rw c.cells-j-items.ensures at c.loop-j-test.false in
    none-other row c.args.c (λ i l. c.loop-j.invariant i (omega arith))
