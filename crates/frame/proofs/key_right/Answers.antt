-- The two parts of a right key, one after another.
use mathlib.Core.Path.{ap}
use Prim.Native.Nat.{◌/◌, ◌%◌}
use native.Mathlib.Omega.{arith}
use borrow.Author.Tests.{le-leb, lt-leb}
use lib.Dec.{leb}
use Rattle.rules.specs.Book.{dim, key_right}
use Rattle.frame.proofs.key_right.Goals as goal

pub returns-then-k-top : goal.returns-then-k-top
unfolding key_right
returns-then-k-top c =
    let a = c.args in
    rw (le-leb (a.k / 4) (dim a.book.now) (omega arith)) (ap (leb (a.k % 4)) c.dim-top.ensures)

pub returns-else-k-top : goal.returns-else-k-top
unfolding key_right
returns-else-k-top c =
    let a = c.args in
    rw (lt-leb (a.k / 4) c.dim-top.result c.if-k-top.false, lt-leb (a.k / 4) (dim a.book.now) (omega arith))
