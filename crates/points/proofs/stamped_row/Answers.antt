-- The cells at i are stamped, i is not, and the vertices that bear the stamp are the row of the rules.
use Rattle.std.proofs.Common.{◌≡◌, ◌∙◌, arith, rules, length}
use lib.Dec.{ltb}
use borrow.Author.Tests.{ltb-true, lt-ltb}
use Rattle.rules.proofs.Tests.{all_weaker}
use Rattle.relations.specs.Words.{part}
use Rattle.relations.proofs.Placed.{row-bounds, rows-within, start-row}
use Rattle.points.proofs.PointRows.{point-row}
use Rattle.points.proofs.stamped_row.Goals as goal

pub offset_bounds-words-from : goal.offset_bounds-words-from
offset_bounds-words-from c =
    omega (arith, c.start-from.ensures, c.start-to.ensures, row-bounds c.requires.around.through.owned c.args.i.0 c.requires.row)

pub slice_bounds-meet_cells-count : goal.slice_bounds-meet_cells-count
slice_bounds-meet_cells-count c =
    omega (arith, c.start-from.ensures, c.start-to.ensures, row-bounds c.requires.around.through.owned c.args.i.0 c.requires.row)

pub slice_bounds-meet_cells-start : goal.slice_bounds-meet_cells-start
slice_bounds-meet_cells-start c =
    omega (arith, c.start-from.ensures, c.start-to.ensures, row-bounds c.requires.around.through.owned c.args.i.0 c.requires.row)

pub slice_bounds-meet_cells-end : goal.slice_bounds-meet_cells-end
slice_bounds-meet_cells-end c =
    omega (arith, c.start-from.ensures, c.start-to.ensures, row-bounds c.requires.around.through.owned c.args.i.0 c.requires.row)

pub meet_cells-requires : goal.meet_cells-requires
unfolding part
meet_cells-requires c =
    let a = c.args in
    let q = c.requires in
    let w = q.around.through in
    record {
      rows = rows-within w.backed _ (omega arith);
      known = rw (c.start-from.ensures, c.start-to.ensures, start-row a.book.now a.own.at.0 a.own.rows a.i.0) (w.below a.i.0 q.row);
      below = λ x l. all_weaker (λ j. ltb j a.own.rows) (λ j. ltb j 8192) (λ j e. lt-ltb j 8192 (omega (arith, ltb-true j a.own.rows e, q.around.most))) _ (q.around.again x l);
    }

pub returns : goal.returns
unfolding part
returns c =
    let a = c.args in
    let q = c.requires in
    let s = c.renew.new.self in
    let every : length a.stamps.now.met ≡ 8192 = search rules in
    let long : length s.met ≡ 8192 = rw c.renew.ensures.met every in
    let met = rw (c.start-from.ensures, c.start-to.ensures, start-row a.book.now a.own.at.0 a.own.rows a.i.0) at c.meet_cells.ensures.met in
    let stamp = c.leave_out.ensures.stamp ∙ c.meet_cells.ensures.stamp in
    record {
      written = rw (c.leave_out.ensures.met, met, stamp, point-row q.around a.i.0 q.row s.met s.stamp long s.some c.renew.ensures.clean) at c.write.ensures;
      stamp = omega (arith, stamp, c.renew.ensures.stamp, q.stamp);
    }
