-- Each case lists the needs of its rule.
use mathlib.Core.Path.{◌≡◌}
use mathlib.Core.List.{[], ◌∷◌}
use native.Mathlib.Omega.{arith}
use Rattle.rules.specs.Book.{key}
use Rattle.rules.specs.Book as rule
use Rattle.rules.proofs.Needs.{needs-cells, needs-build, needs-up, needs-down, needs-across, needs-vertices}
use Rattle.frame.proofs.Listed.{none, one, two, three}
use Rattle.frame.proofs.needs_of.Goals as goal

pub returns-then-d-eq0 : goal.returns-then-d-eq0
returns-then-d-eq0 c =
    let a = c.args in
    let q : rule.needs a.top a.d a.e ≡ key 0 a.top ∷ key a.top 0 ∷ [] = rw (c.if-e-eq0.true, c.if-d-eq0.true) (needs-vertices a.top) in let all = two _ _ _ c.key.ensures _ _ c.key-then-d-eq0.ensures q in record { keys = all.0; count = all.1 }

pub returns-then-d-top : goal.returns-then-d-top
returns-then-d-top c =
    let a = c.args in
    let q : rule.needs a.top a.d a.e ≡ [] = rw (c.if-e-eq0.true, c.if-d-top.true) (needs-cells a.top (omega arith)) in let all = none _ q in record { keys = all.0; count = all.1 }

pub returns-then-e-eq0 : goal.returns-then-e-eq0
returns-then-e-eq0 c =
    let a = c.args in
    let q : rule.needs a.top a.d a.e ≡ key a.top 0 ∷ [] = rw c.if-e-eq0.true (needs-build a.top a.d (omega arith) c.if-d-top.false) in let all = one _ _ _ c.key-then-e-eq0.ensures q in record { keys = all.0; count = all.1 }

pub returns-then-d-e : goal.returns-then-d-e
returns-then-d-e c =
    let a = c.args in let all = one _ _ _ c.key-then-d-e.ensures (needs-up a.top a.d a.e c.if-d-e.true) in record { keys = all.0; count = all.1 }

pub returns-then-e-d : goal.returns-then-e-d
returns-then-e-d c =
    let a = c.args in let all = three _ _ _ c.key-then-e-d.ensures _ _ c.key-then-e-d-2.ensures _ _ c.key-then-e-d-3.ensures (needs-down a.top a.d a.e (omega arith) c.if-e-d.true) in record { keys = all.0; count = all.1 }

pub returns : goal.returns
returns c =
    let a = c.args in
    let z : a.e ≡ a.d = omega arith in
    let q : rule.needs a.top a.d a.e ≡ key a.d 0 ∷ key 0 a.d ∷ [] = rw z (needs-across a.top a.d (omega arith)) in let all = two _ _ _ c.key-2.ensures _ _ c.key-3.ensures q in record { keys = all.0; count = all.1 }
