-- The invariants: none is found yet, and no cell before c names a vertex twice; each vertex before i is apart from those after it; vertex i is apart from those before j.
use mathlib.Core.Path.{◌≡◌, sym, ◌∙◌}
use mathlib.Core.Bool.{true}
use Prim.Native.Nat.{◌+◌}
use Rattle.std.specs.Prelude.{Some, None}
use native.Mathlib.Omega.{arith}
use borrow.Author.Count.{below_more}
use lib.ListN.{length, get_or, take}
use Rattle.rules.specs.File.{twice, head_dim, head_cells}
use Rattle.rules.proofs.Searched.{Apart, from_more, apart-all}
use Rattle.repeats.specs.Rows.{row_at}
use Rattle.dayfile.specs.Numbers.{numbers}
use Rattle.dayfile.specs.Words.{cells_in}
use Rattle.dayfile.proofs.Lowest.{cell-found}
use Rattle.dayfile.proofs.Numbers.{number_at}
use Rattle.dayfile.proofs.FourWords.{row-long, front-apart, front-twice}
use Rattle.dayfile.proofs.faults.first_twice.Goals as goal

pub bounds-v-i : goal.bounds-v-i
unfolding head_dim
bounds-v-i c = omega arith

pub bounds-v-j : goal.bounds-v-j
unfolding head_dim
bounds-v-j c = omega arith

pub loop-j-preserved : goal.loop-j-preserved
loop-j-preserved c =
    let u = c.loop-j in
    let v = c.cell_at-v.result in
    let i = c.loop-i.i in
    (u.invariant.0, from_more (numbers v) i u.j u.invariant.1 (λ e. c.if-v-i.false (sym (number_at v i) ∙ e ∙ number_at v u.j)))

pub cells-preserved : goal.cells-preserved
unfolding head_dim
cells-preserved c =
    let four : length (row_at 4 c.args.words.now c.cells.c) ≡ 4 = row-long c.args.words.now c.cells.c (omega arith) in
    let m = c.dimension.result + 1 in
    let g : Apart (row_at 4 c.args.words.now c.cells.c) m = rw c.cell_at-v.ensures at (apart-all (numbers c.cell_at-v.result) m (λ k l. c.loop-i.invariant.1 k (omega arith))) in
    (c.loop-i.invariant.0, below_more _ _ c.cells.invariant.1 (front-apart (row_at 4 c.args.words.now c.cells.c) m (omega (arith, four)) g))

pub returns-after-cells : goal.returns-after-cells
unfolding cells_in
returns-after-cells c =
    c.cells.invariant.0 ∙ cell-found twice _ (head_cells c.args.head.0) None (λ k z h. rw c.dimension.ensures at (c.cells.invariant.1 k (omega arith)))

pub returns-then-v-i : goal.returns-then-v-i
unfolding head_dim cells_in
returns-then-v-i c =
    let ws = c.args.words.now in
    let n = c.cells.c in
    let four : length (row_at 4 ws n) ≡ 4 = row-long ws n (omega arith) in
    let m = c.dimension.result + 1 in
    let i = c.loop-i.i in
    let j = c.loop-j.j in
    let v = c.cell_at-v.result in
    let q : get_or (row_at 4 ws n) i 0 ≡ get_or (row_at 4 ws n) j 0 = rw (← c.cell_at-v.ensures) (number_at v i ∙ c.if-v-i.true ∙ sym (number_at v j)) in
    let e : twice (take m (row_at 4 ws n)) ≡ true = front-twice (row_at 4 ws n) m i j (omega (arith, four)) (omega arith) (omega arith) q in
    cell-found twice _ (head_cells c.args.head.0) (Some n) (omega arith, omega arith, rw c.dimension.ensures at e, λ k z h. rw c.dimension.ensures at (c.cells.invariant.1 k h))
