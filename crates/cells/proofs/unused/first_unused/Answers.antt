-- The vertices not marked from the cells of a right book are those that lie in no cell.
use mathlib.Core.Path.{ap, ◌∙◌}
use mathlib.Core.Bool.{not}
use native.Mathlib.Omega.{arith}
use Rattle.rules.specs.Lists.{joined}
use Rattle.rules.specs.Book.{dim, count, key, rows_of}
use Rattle.rules.proofs.Searched.{least-agree}
use Rattle.kinds.specs.Lowest.{lowest_below}
use Rattle.cells.proofs.Marks.{marked-is, named-unused, vertices-low, cells_low}
use Rattle.cells.proofs.unused.first_unused.Goals as goal

pub mark-requires : goal.mark-requires
mark-requires c =
    let s = c in
    rw c.cells.ensures (cells_low s.args.book.now s.requires.0 s.requires.1)

pub first_unmarked-requires : goal.first_unmarked-requires
first_unmarked-requires c =
    let s = c in
    omega (arith, c.count.ensures, vertices-low s.args.book.now s.requires.0)

pub returns : goal.returns
returns c =
    let ws = c.args.book.now in
    let e = rw c.cells.ensures at c.mark.ensures in
    rw (c.count.ensures, e) at c.first_unmarked.ensures
    ∙ ap (lowest_below (λ v. v) (count ws 0)) (least-agree _ _ (count ws 0)
    (λ v l. ap not (marked-is (joined (rows_of ws (key (dim ws) 0))) (cells_low ws c.requires.0 c.requires.1) v) ∙ named-unused ws c.requires.0 c.requires.1 v l))
