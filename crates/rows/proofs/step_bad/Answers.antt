-- Two tests, the second where the first does not hold.
use mathlib.Core.Path.{◌≡◌}
use Prim.Native.Nat.{◌+◌, ◌-◌}
use native.Mathlib.Omega.{arith}
use lib.Dec.{eqb}
use borrow.Author.Tests.{eq-eqb, lt-ltb, le-ltb, eqb-true}
use Rattle.rules.proofs.Tests.{agree}
use Rattle.rows.specs.Seen.{step_bad}
use Rattle.rows.proofs.step_bad.Goals as goal

pub returns-then-offset-before : goal.returns-then-offset-before
unfolding step_bad
returns-then-offset-before c = rw (lt-ltb c.args.offset c.args.before c.if-offset-before.true)

pub returns-then-size-eq0 : goal.returns-then-size-eq0
unfolding step_bad
returns-then-size-eq0 c =
    let a = c.args in
    rw (le-ltb a.offset a.before c.if-offset-before.false, le-ltb 0 a.size (omega arith))

pub returns : goal.returns
unfolding step_bad
returns c =
    let a = c.args in
    let l = c.if-offset-before.false in
    let e : eqb (a.offset - a.before) a.size ≡ eqb a.offset (a.before + a.size)
    = agree _ _ (λ t. let q = eqb-true (a.offset - a.before) a.size t in eq-eqb a.offset (a.before + a.size) (omega arith)) (λ t. let q = eqb-true a.offset (a.before + a.size) t in eq-eqb (a.offset - a.before) a.size (omega arith)) in
    rw (le-ltb a.offset a.before l, lt-ltb 0 a.size (omega arith), e)
