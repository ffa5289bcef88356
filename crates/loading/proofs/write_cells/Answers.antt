-- The invariant: the cells passed are written, one behind the other.
use mathlib.Core.Path.{◌≡◌, ◌∙◌}
use Prim.Native.Nat.{suc, ◌+◌, ◌*◌, ◌≤◌}
use native.Mathlib.Nat.{mul-zero, mul-suc, mul_comm, mul-le-mul_left}
use native.Mathlib.Numerals.{add-one}
use native.Mathlib.Omega.{arith}
use lib.ListN.{length}
use Rattle.rules.specs.File.{head_dim, head_cells}
use Rattle.dayfile.specs.Words.{cells_in}
use Rattle.relations.proofs.Listing.{listing_none, listing-more, listing-all}
use Rattle.loading.proofs.write_cells.Goals as goal

pub loop-c-init : goal.loop-c-init
loop-c-init c = (listing_none _ _ _ _ _, rw (mul-zero c.corners-n.result) (omega arith))

pub write_cell-requires : goal.write_cell-requires
write_cell-requires c =
    let all : head_cells c.args.head.0 * (head_dim c.args.head.0 + 1) ≡ c.corners-n.result * c.cells-c-end.result =
    let h = c.args.head.0 in
    rw (c.corners-n.ensures.corners, c.cells-c-end.ensures) (mul_comm (head_cells h) (head_dim h + 1)) in
    let room : c.loop-c.to + c.corners-n.result ≤ length c.args.book.now =
    let d = c in
    let s = d in
    let l = c.loop-c in
    let m : d.corners-n.result * suc l.c ≤ d.corners-n.result * d.cells-c-end.result = mul-le-mul_left d.corners-n.result c.loop-c-test.true in
    omega (arith, l.invariant.1, s.requires.room, all) in
    let t = c in
    let d = t in
    let s = d in
    record { cell = omega (arith, s.requires.few, d.cells-c-end.ensures, t.loop-c-test.true); few = d.corners-n.ensures.few; room = omega (arith, room, t.loop-c.invariant.0.long) }

pub loop-c-preserved : goal.loop-c-preserved
loop-c-preserved c =
    let t = c in
    let l = t.loop-c in
    (listing-more l.invariant.0 t.loop-c-test.true _ _ c.write_cell.auto.book (omega arith) c.write_cell.ensures, rw (add-one l.c, mul-suc) (omega (arith, l.invariant.1)))

pub returns : goal.returns
unfolding cells_in
returns c =
    let all : head_cells c.args.head.0 * (head_dim c.args.head.0 + 1) ≡ c.corners-n.result * c.cells-c-end.result =
    let h = c.args.head.0 in
    rw (c.corners-n.ensures.corners, c.cells-c-end.ensures) (mul_comm (head_cells h) (head_dim h + 1)) in
    let l = c.loop-c in
    let d = c in
    let h = d.args.head.0 in
    let w = listing-all l.invariant.0 c.loop-c-test.false in
    let n : l.c ≡ d.cells-c-end.result = omega (arith, l.invariant.0.high, c.loop-c-test.false) in
    let e : l.to ≡ d.args.at.0 + head_cells h * (head_dim h + 1) = l.invariant.1 ∙ rw (n, all) in
    rw (e, d.corners-n.ensures.corners, d.cells-c-end.ensures) at w
