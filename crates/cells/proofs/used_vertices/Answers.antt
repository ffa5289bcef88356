-- The vertices marked from the cells of a right book are those that lie in some cell.
use mathlib.Core.Path.{ap, ◌∙◌}
use native.Mathlib.Omega.{arith}
use lib.ListN.{length}
use Rattle.rules.specs.Book.{count}
use Rattle.cells.proofs.Marks.{marked-named, named-used, vertices-low, cells_low}
use Rattle.cells.proofs.used_vertices.Goals as goal

pub mark-requires : goal.mark-requires
mark-requires c =
    let s = c in
    rw c.cells.ensures (cells_low s.args.book.now s.requires.0 s.requires.1)

pub marked-requires : goal.marked-requires
marked-requires c =
    let s = c in
    omega (arith, c.count.ensures, vertices-low s.args.book.now s.requires.0)

pub returns : goal.returns
returns c =
    let m = c in
    let s = m in
    let ws = s.args.book.now in
    let e = rw m.cells.ensures at m.mark.ensures in
    rw (c.count.ensures, e) at c.marked.ensures
    ∙ ap length (marked-named _ (cells_low ws s.requires.0 s.requires.1) (count ws 0) ∙ named-used ws s.requires.0 s.requires.1)
