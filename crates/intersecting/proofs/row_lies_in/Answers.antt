-- The row stands between two starts, which `Rows` bounds.
use Rattle.std.proofs.Common.{◌≡◌, ◌+◌, ◌-◌, ◌∙◌, arith}
use Rattle.relations.specs.Words.{part}
use Rattle.relations.proofs.Placed.{row-bounds, start-row}
use Rattle.intersecting.specs.Inner.{lies_in}
use Rattle.intersecting.proofs.Tests.{all-inside}
use Rattle.intersecting.proofs.row_lies_in.Goals as goal

pub offset_bounds-book-start : goal.offset_bounds-book-start
offset_bounds-book-start c = omega (arith, c.start-start.ensures, c.start-end.ensures, row-bounds c.requires.rows c.args.i c.requires.row)

pub slice_bounds-contained-count : goal.slice_bounds-contained-count
slice_bounds-contained-count c = omega (arith, c.start-start.ensures, c.start-end.ensures, row-bounds c.requires.rows c.args.i c.requires.row)

pub slice_bounds-contained-start : goal.slice_bounds-contained-start
slice_bounds-contained-start c = omega (arith, c.start-start.ensures, c.start-end.ensures, row-bounds c.requires.rows c.args.i c.requires.row)

pub slice_bounds-contained-end : goal.slice_bounds-contained-end
slice_bounds-contained-end c = omega (arith, c.start-start.ensures, c.start-end.ensures, row-bounds c.requires.rows c.args.i c.requires.row)

pub returns : goal.returns
unfolding lies_in part
returns c =
    let a = c.args in
    let m-is : a.a.0 + a.m - a.a.0 ≡ a.m = omega arith in
    let start = c.start-start.result.0 in
    c.contained.ensures ∙ all-inside (part a.book.now start (c.start-end.result.0 - start)) (part a.book.now a.a.0 (a.a.0 + a.m - a.a.0))
    ∙ rw (m-is, c.start-start.ensures, c.start-end.ensures, start-row a.book.now a.source.at.0 a.source.rows a.i)
