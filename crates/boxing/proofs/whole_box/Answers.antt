-- Each answer comes with the tests that were passed before it, and an accepted call with the whole mesh's box or none.
use mathlib.Core.Path.{ap, ◌∙◌}
use mathlib.Core.List.{[]}
use Rattle.rules.specs.Book.{Right}
use Rattle.rules.specs.Boxes.{whole_number, whole_rules, whole_box, whole_given}
use Rattle.kinds.specs.Refusals.{given as gives}
use Rattle.right.proofs.Checks.{refuses}
use Rattle.boxing.specs.Answers.{some_ends}
use Rattle.boxing.proofs.Answered.{given, passed-on, few-axes, whole-rest}
use Rattle.boxing.proofs.whole_box.Goals.{After-lent}
use Rattle.boxing.proofs.whole_box.Goals as goal

right : (c : After-lent) → Right c.args.book.now
right c = rw c.in_ok-whole.ensures.words at c.in_ok-whole.ensures.right

pub returns-in_err-whole : goal.returns-in_err-whole
unfolding whole_number whole_rules whole_given
returns-in_err-whole c =
    let r = refuses c.args.book.now _ _ _ c.from_residual.ensures.1 c.in_err-whole.ensures.number c.in_err-whole.ensures.place in
    record { number = r.number; place = r.place; ends = ap (gives [] some_ends) r.is ∙ rw r.some }

pub returns-in_err-lent : goal.returns-in_err-lent
unfolding whole_given
returns-in_err-lent c =
    let a = c.args in
    let r = right (goal.at.returns-in_err-lent c).After-lent in
    let e = c.in_err-lent.ensures in
    let all = passed-on a.book.now (whole_box a.book.now a.coordinates.now a.axes) some_ends _ c.from_residual-in_err-lent.result c.from_residual-in_err-lent.ensures.1 e.place (e.number ∙ whole-rest a.book.now a.coordinates.now a.axes r.frame r.rows) in
    record { number = all.0; place = all.1.0; ends = all.1.1 }

pub mesh_box-requires : goal.mesh_box-requires
mesh_box-requires c = few-axes c.args.book.now c.args.coordinates.now c.args.axes c.in_ok-lent.ensures.number

pub returns : goal.returns
unfolding whole_given
returns c =
    let a = c.args in
    let r = right (goal.at.returns c).After-lent in
    let all = given a.book.now (whole_box a.book.now a.coordinates.now a.axes) _ (c.mesh_box.ensures ∙ ap (λ ws. whole_box ws a.coordinates.now a.axes) c.in_ok-whole.ensures.words) (c.in_ok-lent.ensures.number ∙ whole-rest a.book.now a.coordinates.now a.axes r.frame r.rows) in
    record { number = all.0; place = all.1.0; ends = all.1.1 }
