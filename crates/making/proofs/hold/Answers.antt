-- Every make keeps the book on the way to k, and the sum of powers of two grows, which stays below 2^16.
use mathlib.Core.Bool.{not}
use mathlib.Core.Path.{ap}
use Rattle.kinds.proofs.Determined.{handed-on}
use Rattle.making.proofs.Reached.{begins, near, next-same, done, makable, stuck, further, less}
use Rattle.making.proofs.hold.Goals as goal

pub loop-book-init : goal.loop-book-init
loop-book-init c = begins _ _ c.requires

pub next_key-next-requires : goal.next_key-next-requires
next_key-next-requires c = near _ _ c.requires _ c.loop-book.invariant _ c.dim.ensures

pub add-requires : goal.add-requires
add-requires c = makable _ _ c.requires _ c.loop-book.invariant _ c.held.ensures (ap not c.loop-book-test.true) _ (next-same _ _ c.requires _ c.loop-book.invariant _ _ _ c.dim.ensures c.word.ensures c.next_key-next.ensures)

pub returns-in_err-add : goal.returns-in_err-add
returns-in_err-add c =
    rw (handed-on c.from_residual.result _ c.from_residual.ensures.1)
    (stuck _ _ c.requires _ c.loop-book.invariant _ c.held.ensures (ap not c.loop-book-test.true) _ (next-same _ _ c.requires _ c.loop-book.invariant _ _ _ c.dim.ensures c.word.ensures c.next_key-next.ensures) _ c.add.ensures.words _ c.in_err-add.ensures.fits)

pub loop-book-smaller : goal.loop-book-smaller
loop-book-smaller c = less _ _ c.requires _ c.loop-book.invariant _ c.held.ensures (ap not c.loop-book-test.true) _ (next-same _ _ c.requires _ c.loop-book.invariant _ _ _ c.dim.ensures c.word.ensures c.next_key-next.ensures) _ c.add.ensures.words c.in_ok-add.ensures.fits

pub loop-book-preserved : goal.loop-book-preserved
loop-book-preserved c = further _ _ c.requires _ c.loop-book.invariant _ c.held.ensures (ap not c.loop-book-test.true) _ (next-same _ _ c.requires _ c.loop-book.invariant _ _ _ c.dim.ensures c.word.ensures c.next_key-next.ensures) _ c.add.ensures.words c.in_ok-add.ensures.fits

pub returns : goal.returns
returns c = done _ _ c.requires _ c.loop-book.invariant _ c.held.ensures (ap not c.loop-book-test.false)
