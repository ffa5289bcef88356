-- The definition's two tests.
use borrow.Author.Tests.{eq-eqb, ne_eqb}
use Rattle.rules.specs.Book.{most}
use Rattle.book.proofs.most.Goals as goal

pub returns-then-top-eq2 : goal.returns-then-top-eq2
unfolding most
returns-then-top-eq2 c = rw (eq-eqb _ 2 c.if-top-eq2.true)

pub returns-then-d-eq1 : goal.returns-then-d-eq1
unfolding most
returns-then-d-eq1 c = rw (ne_eqb _ 2 c.if-top-eq2.false, eq-eqb _ 1 c.if-d-eq1.true)

pub returns-else-d-eq1 : goal.returns-else-d-eq1
unfolding most
returns-else-d-eq1 c = rw (ne_eqb _ 2 c.if-top-eq2.false, ne_eqb _ 1 c.if-d-eq1.false)
