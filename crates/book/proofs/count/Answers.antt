-- Each case of N_d is the definition's, by the two tests.
use mathlib.Core.Path.{sym, ◌∙◌}
use borrow.Author.Tests.{eq-eqb, ne_eqb}
use Rattle.rules.specs.Book.{dim, count}
use Rattle.book.proofs.count.Goals as goal

pub returns-then-d-eq0 : goal.returns-then-d-eq0
unfolding count
returns-then-d-eq0 c = rw (c.word-head.ensures, eq-eqb _ 0 c.if-d-eq0.true)

pub returns-then-d-dim : goal.returns-then-d-dim
unfolding count
returns-then-d-dim c =
    let a = c.args in
    rw (c.word-head.ensures, ne_eqb _ 0 c.if-d-eq0.false, eq-eqb a.d (dim a.book.now) (c.if-d-dim.true ∙ c.dim.ensures))

pub returns : goal.returns
unfolding count
returns c =
    let a = c.args in
    rw (c.word.ensures, ne_eqb _ 0 c.if-d-eq0.false, ne_eqb a.d (dim a.book.now) (λ e. c.if-d-dim.false (e ∙ sym c.dim.ensures)))
