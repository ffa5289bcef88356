-- A refusal leaves the lists alone, and what passes the tests is written whole.
use mathlib.Core.Path.{◌≡◌, sym, ap, ◌∙◌}
use lib.ListN.{length}
use Rattle.rules.specs.Closures.{close_number}
use Rattle.kinds.specs.Refusals.{answer_number, answer_place}
use Rattle.kinds.proofs.Determined.{handed-on, refused-accepted}
use Rattle.closing.proofs.Answered.{Passed, passed, refused, done}
use Rattle.closing.proofs.close.Goals.{In_ok-answer}
use Rattle.closing.proofs.close.Goals as goal

accepts : (c : In_ok-answer) → close_number c.args.book.now c.args.counts.now (length c.args.closures.now) (length c.args.steps.now) (length c.args.bytes.now) ≡ 0
accepts c = sym c.in_ok-answer.ensures.number

writes : (c : In_ok-answer) → Passed c.args.book.now c.args.counts.now (length c.args.closures.now) (length c.args.steps.now) (length c.args.bytes.now)
writes c = passed _ _ _ _ _ (sym c.in_ok-answer.ensures.number)

pub returns-in_err-answer : goal.returns-in_err-answer
returns-in_err-answer c =
    let h = handed-on c.from_residual.result c.in_err-answer.field-0.0 c.from_residual.ensures.1 in
    let e = c.in_err-answer.ensures in
    let a = refused c.args.book.now c.args.counts.now c.args.closures.now c.args.steps.now c.args.bytes.now (λ z. refused-accepted _ (e.number ∙ z)) in
    record { number = ap answer_number h ∙ e.number; place = ap answer_place h ∙ e.place; closures = a.closures-are; steps = a.steps-are; bytes = a.bytes-are }

pub fill_steps-requires : goal.fill_steps-requires
fill_steps-requires c =
    let p = writes (goal.at.fill_steps-requires c).In_ok-answer in
    record { edges = p.edges; even = p.even }

pub fill_closures-requires : goal.fill_closures-requires
fill_closures-requires c = (writes (goal.at.fill_closures-requires c).In_ok-answer).faces

pub returns : goal.returns
returns c =
    let e = c.fill_steps.ensures in
    let a = done c.args.book.now c.args.counts.now c.args.closures.now c.args.steps.now c.args.bytes.now (accepts (goal.at.returns c).In_ok-answer) _ _ _ c.fill_closures.ensures e.steps e.bytes in
    record { number = c.in_ok-answer.ensures.number; place = c.in_ok-answer.ensures.place; closures = a.closures-are; steps = a.steps-are; bytes = a.bytes-are }
