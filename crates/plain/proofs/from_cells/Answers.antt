-- The cells are the rows of D→0 one after another, and the sizes those of word 0.
use mathlib.Core.Path.{◌≡◌}
use Rattle.rules.specs.Book.{dim, count}
use Rattle.rules.proofs.FrameRule.{framed}
use Rattle.plain.proofs.BookCells.{read-cells, read-mesh}
use Rattle.plain.proofs.from_cells.Goals as goal

pub invariant_of-mesh : goal.invariant_of-mesh
invariant_of-mesh c =
    let ws = c.args.book.now in
    let e = c.dim-top.ensures in
    let many : c.count.result ≡ count ws (dim ws) = cc in
    record { cells = rw (rw c.words.ensures.words at c.cells.ensures) (read-cells ws e.right.frame e.right.rows _ _ e.dim many) }

pub worked_out-requires : goal.worked_out-requires
worked_out-requires c =
    let ws = c.args.book.now in
    let e = c.dim-top.ensures in
    record { dims = (rw e.dim (framed ws e.right.frame).low, (rw e.dim c.requires.0, rw e.dim c.requires.1)) }

pub returns : goal.returns
returns c =
    let ws = c.args.book.now in
    let e = c.dim-top.ensures in
    let many : c.count.result ≡ count ws (dim ws) = cc in
    let m = read-mesh ws e.right.frame e.right.rows _ e.dim many c.count-2.ensures in
    let all = rw ((rw c.words.ensures.words at c.cells.ensures), m) at c.worked_out.ensures in
    record { number = all.number; yes = all.yes; place = all.place }
