-- `closing::lengths_right` meets its contract, length by length.
use mathlib.Core.Path.{◌≡◌, sym, ap, ◌∙◌}
use mathlib.Core.Bool.{true}
use lib.ListN.{length}
use lib.Dec.{eqb}
use borrow.Author.Tests.{eq-eqb, ne_eqb}
use Rattle.rules.specs.Book.{count}
use Rattle.rules.specs.Closures.{lengths_right}
use Rattle.closing.proofs.lengths_right.Goals as goal

pub returns-then-counts-count : goal.returns-then-counts-count
unfolding lengths_right
returns-then-counts-count c =
    let a = c.args in
    rw (ne_eqb (length a.counts.now) (count a.book.now 0) (λ e. c.if-counts-count.true (e ∙ sym c.count.ensures)))

pub returns-then-closures-count : goal.returns-then-closures-count
unfolding lengths_right
returns-then-closures-count c =
    let a-vertex : let a = c.args in eqb (length a.counts.now) (count a.book.now 0) ≡ true =
    let a = c.args in eq-eqb (length a.counts.now) (count a.book.now 0) (c.if-counts-count.false ∙ c.count.ensures) in
    let a = c.args in
    rw (a-vertex, ne_eqb a.closures (count a.book.now 2) (λ e. c.if-closures-count.true (e ∙ sym c.count-2.ensures)))

pub returns-then-steps-edges : goal.returns-then-steps-edges
unfolding lengths_right
returns-then-steps-edges c =
    let a-vertex : let a = c.args in eqb (length a.counts.now) (count a.book.now 0) ≡ true =
    let a = c.args in eq-eqb (length a.counts.now) (count a.book.now 0) (c.if-counts-count.false ∙ c.count.ensures) in
    let a-face : let a = c.args in eqb a.closures (count a.book.now 2) ≡ true =
    let a = c.args in eq-eqb a.closures (count a.book.now 2) (c.if-closures-count.false ∙ c.count-2.ensures) in
    let a = c.args in
    rw (a-vertex, a-face, ne_eqb a.steps (count a.book.now 1) (λ e. c.if-steps-edges.true (e ∙ sym c.count-edges.ensures)))

pub returns : goal.returns
unfolding lengths_right
returns c =
    let a-vertex : let a = c.args in eqb (length a.counts.now) (count a.book.now 0) ≡ true =
    let a = c.args in eq-eqb (length a.counts.now) (count a.book.now 0) (c.if-counts-count.false ∙ c.count.ensures) in
    let a-face : let a = c.args in eqb a.closures (count a.book.now 2) ≡ true =
    let a = c.args in eq-eqb a.closures (count a.book.now 2) (c.if-closures-count.false ∙ c.count-2.ensures) in
    let a = c.args in
    rw (a-vertex, a-face, eq-eqb a.steps (count a.book.now 1) (c.if-steps-edges.false ∙ c.count-edges.ensures))
    (ap (eqb a.bytes) c.count-edges.ensures)
