-- The invariant: before is offset i, and no offset up to it shows a fault.
use mathlib.Core.Path.{◌≡◌, sym, ◌∙◌}
use Prim.Native.Nat.{◌+◌, ◌/◌}
use native.Mathlib.Numerals.{add-one}
use native.Mathlib.Omega.{arith}
use borrow.Author.Count.{below_more}
use borrow.Author.Tests.{eq-eqb, ne_eqb}
use Rattle.rules.specs.Book.{count, offset}
use Rattle.rules.specs.Broken.{offset_bad}
use Rattle.rules.proofs.Searched.{least-is}
use Rattle.rows.proofs.Walked.{offset-first, offset_step}
use Rattle.rows.proofs.Relation.bad_offset.Goals.{After-step_bad}
use Rattle.rows.proofs.Relation.bad_offset.Goals as goal

pub returns-then-before-ne0 : goal.returns-then-before-ne0
returns-then-before-ne0 c =
    let r = c.args.self in
    sym (least-is (offset_bad r.book.now r.key) _ 0 (omega arith) (λ j l. absurd (omega arith))
    (λ l. offset-first r.book.now r.key ∙ rw (ne_eqb (offset r.book.now r.key 0) 0 (λ e. c.if-before-ne0.true (c.offset-before.ensures ∙ e)))))

pub loop-i-init : goal.loop-i-init
loop-i-init c =
    let r = c.args.self in
    let z : offset r.book.now r.key 0 ≡ 0 = sym c.offset-before.ensures ∙ c.if-before-ne0.false in
    (c.offset-before.ensures, λ q l. let e : q ≡ 0 = omega arith in rw e (offset-first r.book.now r.key ∙ rw (eq-eqb (offset r.book.now r.key 0) 0 z)))

-- offset i + 1 shows a fault exactly where the step to it is bad
stepped : (c : After-step_bad) → offset_bad c.args.self.book.now c.args.self.key (c.loop-i.i + 1) ≡ c.step_bad.result
stepped c =
    let r = c.args.self in
    rw add-one (offset_step r.book.now r.key c.loop-i.i ∙ sym (c.step_bad.ensures ∙ rw (c.loop-i.invariant.0, c.offset-offset.ensures, c.row_size-size.ensures, add-one)))

pub returns-then-step_bad : goal.returns-then-step_bad
returns-then-step_bad c =
    let r = c.args.self in
    sym (least-is (offset_bad r.book.now r.key) _ (c.loop-i.i + 1) (omega (arith, c.rows-n.ensures.value)) c.loop-i.invariant.1 (λ m. stepped (goal.at.returns-then-step_bad c).After-step_bad ∙ c.if-step_bad.true))

pub loop-i-preserved : goal.loop-i-preserved
loop-i-preserved c = (c.offset-offset.ensures, below_more _ _ c.loop-i.invariant.1 (stepped (goal.at.loop-i-preserved c).After-step_bad ∙ c.if-step_bad.false))

pub returns : goal.returns
returns c =
    let r = c.args.self in
    let n = c.rows-n.ensures.value in
    sym (rw n (least-is (offset_bad r.book.now r.key) _ (count r.book.now (r.key / 4) + 1) (omega arith) (λ q m. c.loop-i.invariant.1 q (omega arith)) (λ m. absurd (omega arith))))
