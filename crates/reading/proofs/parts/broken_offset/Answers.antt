-- Offset i against the total.
use mathlib.Core.Path.{◌≡◌, ap, ◌∙◌}
use Prim.Native.Nat.{ℕ, ◌+◌}
use native.Mathlib.Omega.{arith}
use lib.ListN.{get_or}
use borrow.Author.Tests.{lt-ltb, le-ltb}
use Rattle.rules.specs.Book.{offset, total}
use Rattle.rules.proofs.AnyWords.{place-low}
use Rattle.reading.proofs.parts.broken_offset.Goals as goal

pub overflow_add-at : goal.overflow_add-at
overflow_add-at c =
    let a = c.args in
    omega (arith, c.place_of-at.ensures, place-low a.book.now (λ i. (c.type_inv.book i).fits) a.k, c.ranges)

pub returns-then-first-total : goal.returns-then-first-total
unfolding offset
returns-then-first-total c =
    let first-is : let a = c.args in c.word-first.result ≡ offset a.book.now a.k a.i =
    let a = c.args in
    c.word-first.ensures ∙ ap (λ (p : ℕ). get_or a.book.now (p + a.i) 0) c.place_of-at.ensures in
    let a = c.args in
    rw (lt-ltb (total a.book.now a.k) (offset a.book.now a.k a.i) (omega (arith, first-is, c.total.ensures, c.if-first-total.true)))

pub returns : goal.returns
unfolding offset
returns c =
    let first-is : let a = c.args in c.word-first.result ≡ offset a.book.now a.k a.i =
    let a = c.args in
    c.word-first.ensures ∙ ap (λ (p : ℕ). get_or a.book.now (p + a.i) 0) c.place_of-at.ensures in
    let a = c.args in
    rw (le-ltb (total a.book.now a.k) (offset a.book.now a.k a.i) (omega (arith, first-is, c.total.ensures, c.if-first-total.false)))
