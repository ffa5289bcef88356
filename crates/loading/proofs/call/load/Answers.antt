-- A fault of the file's head, or of its cells, no room, or the book filled.
use mathlib.Core.Path.{◌≡◌, refl, sym, ap, ◌∙◌}
use lib.ListN.{length}
use Rattle.rules.specs.Calls.{loaded}
use Rattle.kinds.specs.Refusals.{answer_number, answer_cell}
use Rattle.kinds.proofs.Determined.{handed-on, refused-accepted}
use Rattle.dayfile.specs.Faults.{head_number}
use Rattle.dayfile.proofs.HeadFaults.{head-back, head_first}
use Rattle.loading.proofs.Loading.{faulty, crowded, accepted, words-needed}
use Rattle.loading.proofs.Whole.{filling}
use Rattle.loading.proofs.call.load.Goals.{In_ok-head_fault, After-end_of-end}
use Rattle.loading.proofs.call.load.Goals as goal

-- the head has no fault
headed : (c : In_ok-head_fault) → head_number c.args.file.now ≡ 0
headed c = sym (head-back c.args.file.now) ∙ sym (ap answer_number c.in_ok-head_fault.ensures)

needed : (c : After-end_of-end) → c.end_of-end.result.0 ≡ length (loaded c.args.file.now)
needed c = words-needed c.args.file.now _ _ c.header.ensures c.end_of-end.ensures

pub returns-in_err-head_fault : goal.returns-in_err-head_fault
returns-in_err-head_fault c =
    let h = handed-on c.from_residual.result c.in_err-head_fault.field-0.0 c.from_residual.ensures.1 in
    let e = c.in_err-head_fault.ensures in
    let n = ap answer_number e ∙ head-back c.args.file.now in
    let g = faulty c.args.file.now c.args.book.now _ (e ∙ head_first c.args.file.now (λ z. refused-accepted _ (n ∙ z))) (refused-accepted _) in
    record { number = ap answer_number h ∙ g.number_is; cell = ap answer_cell h ∙ g.cell-is; words = g.words_are }

pub body_fault-requires : goal.body_fault-requires
body_fault-requires c = headed (goal.at.body_fault-requires c).In_ok-head_fault

pub returns-in_err-body_fault : goal.returns-in_err-body_fault
returns-in_err-body_fault c =
    let h = handed-on c.from_residual-in_err-body_fault.result c.in_err-body_fault.field-0.0 c.from_residual-in_err-body_fault.ensures.1 in
    let g = faulty c.args.file.now c.args.book.now _ c.in_err-body_fault.ensures.fault (refused-accepted _) in
    record { number = ap answer_number h ∙ g.number_is; cell = ap answer_cell h ∙ g.cell-is; words = g.words_are }

pub returns-then-book-end : goal.returns-then-book-end
returns-then-book-end c =
    let g = crowded c.args.file.now c.args.book.now _ c.in_ok-body_fault.ensures.fault refl (rw (needed (goal.at.returns-then-book-end c).After-end_of-end) at c.if-book-end.true) in
    record { number = g.number_is; cell = g.cell-is; words = g.words_are }

pub fill-requires : goal.fill-requires
fill-requires c =
    let at = goal.at.fill-requires c in
    filling c.args.file.now _ c.body_fault.new.words c.args.book.now (headed at.In_ok-head_fault) c.in_ok-body_fault.ensures.words (rw (needed at.After-end_of-end) at c.if-book-end.false)

pub returns : goal.returns
returns c =
    let g = accepted c.args.file.now c.args.book.now _ c.in_ok-body_fault.ensures.fault refl (rw (needed (goal.at.returns c).After-end_of-end) at c.if-book-end.false) in
    record { number = g.number_is; cell = g.cell-is; words = c.fill.ensures ∙ g.words_are }
