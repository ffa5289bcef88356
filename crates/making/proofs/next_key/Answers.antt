-- What is left of the six steps leads to the same key.
use Rattle.std.proofs.Common.{◌≡◌, ◌+◌, ◌-◌, sym, ◌∙◌, arith}
use Rattle.rules.specs.Book.{named}
use Rattle.making.proofs.Walk.{onward-small, next-step, next-end}
use Rattle.making.proofs.next_key.Goals as goal

pub loop-step-preserved : goal.loop-step-preserved
loop-step-preserved c =
    let v = c.loop-step.invariant in
    let a = c.args in
    let q = c.onward-at.ensures in
    let p = c.requires in
    let e : 6 - c.loop-step._step - 1 ≡ 6 - (c.loop-step._step + 1) = omega arith in
    (rw q (onward-small a.top (named a.mask) _ p.0 v.0), rw (q, ← e) (next-step _ a.top (named a.mask) _ (omega (arith, c.loop-step-test.true)) ∙ v.1))

pub returns : goal.returns
returns c = let v = c.loop-step.invariant in sym (next-end _ _ _ _ (omega (arith, c.loop-step-test.false))) ∙ v.1
