-- No more vertices lie in cells than there are, and a right frame keeps each count far below 2^32, so the sum fits.
use mathlib.Core.Path.{◌≡◌}
use native.Mathlib.Omega.{arith}
use lib.ListN.{length}
use Rattle.rules.specs.Calls.{used_vertices}
use Rattle.reading.proofs.NumberCases.{evens-one, evens-two, evens-low}
use Rattle.reading.proofs.numbers.even_sum.Goals.{After-used_vertices-n}
use Rattle.reading.proofs.numbers.even_sum.Goals as goal

-- the vertices in some cell, of the book
counted : (c : After-used_vertices-n) → c.used_vertices-n.result ≡ length (used_vertices c.args.book.now)
counted c = rw (c.words.ensures.words) at c.used_vertices-n.ensures

pub returns-then-dim-lt2 : goal.returns-then-dim-lt2
returns-then-dim-lt2 c =
    omega (arith, evens-one c.args.book.now (omega (arith, c.dim.ensures.dim, c.if-dim-lt2.true)), counted (goal.at.returns-then-dim-lt2 c).After-used_vertices-n)

pub overflow_add-result : goal.overflow_add-result
overflow_add-result c =
    omega (arith, evens-low c.args.book.now c.dim.ensures.right.frame (omega (arith, c.dim.ensures.dim, c.if-dim-lt2.false)), counted (goal.at.overflow_add-result c).After-used_vertices-n, c.count.ensures)

pub returns : goal.returns
returns c =
    omega (arith, evens-two c.args.book.now (omega (arith, c.dim.ensures.dim, c.if-dim-lt2.false)), counted (goal.at.returns c).After-used_vertices-n, c.count.ensures)
