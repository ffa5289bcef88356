-- Each test decides the number, or leaves the rules behind it; 11 comes with the place that was found.
use mathlib.Core.Path.{refl, ap, ◌∙◌}
use mathlib.Core.Bool.{false}
use native.Mathlib.Omega.{arith}
use Rattle.std.specs.Prelude.{Err}
use Rattle.rules.specs.Book.{dim, Right}
use Rattle.rules.specs.Plain.{plain_number, plain_rules, plain_yes}
use Rattle.kinds.specs.declared.refusals.Refusal.TheVariants.{DimensionOver}
use Rattle.kinds.specs.Refusals.{given}
use Rattle.right.proofs.Checks.{refuses}
use Rattle.plain.proofs.Answered.{bare, plain-12-first, plain-12-second, by-mesh}
use Rattle.plain.proofs.plain.Goals.{In_ok-right, After-from_cells}
use Rattle.plain.proofs.plain.Goals as goal

right : (c : In_ok-right) → Right c.args.book.now
right c = rw c.in_ok-right.ensures.words at c.in_ok-right.ensures.right

pub returns-in_err-right : goal.returns-in_err-right
unfolding plain_number plain_rules plain_yes
returns-in_err-right c =
    let r = refuses c.args.book.now _ _ _ c.from_residual.ensures.1 c.in_err-right.ensures.number c.in_err-right.ensures.place in
    record { number = r.number; place = r.place; yes = ap (given false (λ y. y)) r.is ∙ rw r.some }

pub returns-then-d-top : goal.returns-then-d-top
returns-then-d-top c =
    let a = c.args in
    let r = right (goal.at.returns-then-d-top c).In_ok-right in
    let all = bare a.book.now a.d a.e a.i a.j (Err DimensionOver) 12 refl refl refl refl refl (plain-12-first a.book.now a.d a.e a.i a.j r.frame r.rows (omega (arith, c.dim-top.ensures.dim, ap dim c.in_ok-right.ensures.words, c.if-d-top.true))) in
    record { number = all.0; yes = all.1.0; place = all.1.1 }

pub returns-then-e-top : goal.returns-then-e-top
returns-then-e-top c =
    let a = c.args in
    let r = right (goal.at.returns-then-e-top c).In_ok-right in
    let all = bare a.book.now a.d a.e a.i a.j (Err DimensionOver) 12 refl refl refl refl refl
    (plain-12-second a.book.now a.d a.e a.i a.j r.frame r.rows (omega (arith, c.dim-top.ensures.dim, ap dim c.in_ok-right.ensures.words, c.if-d-top.false)) (omega (arith, c.dim-top.ensures.dim, ap dim c.in_ok-right.ensures.words, c.if-e-top.true))) in
    record { number = all.0; yes = all.1.0; place = all.1.1 }

pub returns : goal.returns
returns c =
    let a = c.args in
    let r = right (goal.at.returns c).In_ok-right in
    let h = rw c.in_ok-right.ensures.words at c.from_cells.ensures in
    let all = by-mesh a.book.now a.d a.e a.i a.j r.frame r.rows (omega (arith, c.dim-top.ensures.dim, ap dim c.in_ok-right.ensures.words, c.if-d-top.false)) (omega (arith, c.dim-top.ensures.dim, ap dim c.in_ok-right.ensures.words, c.if-e-top.false)) _ h.number h.yes h.place in
    record { number = all.0; yes = all.1.0; place = all.1.1 }
