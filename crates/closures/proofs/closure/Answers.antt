-- `closures::closure` meets its contract: over floats by the variants at hand, and over counts since that is exact.
use mathlib.Core.Path.{◌≡◌, sym, ◌∙◌}
use lib.Dec.{T}
use lib.IntN.{ℤ, pos}
use mir.Syntax.{w32}
use mir.ValLaws.{to_z-of_z}
use Rattle.rules.specs.Phases.{counted, closure_of}
use Rattle.closures.specs.Steps.{step_of, closure_between}
use Rattle.closures.specs.declared.values.Step.{Step}
use Rattle.closures.proofs.Exact.{closure-exact}
use Rattle.closures.proofs.closure.Goals as goal

ap₃ : (x x' y y' z z' : Step) → x ≡ x' → y ≡ y' → z ≡ z' → closure_between x y z ≡ closure_between x' y' z'
ap₃ x x' y y' z z' p q r = rw (p, q, r)

-- what is so over floats is so over counts
both_ways : (ab bc ac : Step) (r : ℤ) → r ≡ closure_between ab bc ac
    → (r ≡ closure_between ab bc ac) × ((i j k : ℤ) → T (counted i) → T (counted j) → T (counted k) → ab ≡ step_of i j → bc ≡ step_of j k → ac ≡ step_of i k → r ≡ closure_of i j k)
both_ways ab bc ac r e = (e, (λ i j k I J K p q s. e ∙ ap₃ ab (step_of i j) bc (step_of j k) ac (step_of i k) p q s ∙ closure-exact i j k I J K))

pub returns-in-Masked : goal.returns-in-Masked
unfolding closure_between
returns-in-Masked c =
    let a = c.args in let all = both_ways a.ab a.bc a.ac (pos 2) (rw c.in-Masked.is) in record { floats = all.0; counts = all.1 }

pub returns-in-Masked-bc : goal.returns-in-Masked-bc
unfolding closure_between
returns-in-Masked-bc c =
    let a = c.args in let all = both_ways a.ab a.bc a.ac (pos 2) (rw (c.in-Turns.is, c.in-Masked-bc.is)) in record { floats = all.0; counts = all.1 }

pub returns-in-Masked-ac : goal.returns-in-Masked-ac
unfolding closure_between
returns-in-Masked-ac c =
    let a = c.args in let all = both_ways a.ab a.bc a.ac (pos 2) (rw (c.in-Turns.is, c.in-Turns-bc.is, c.in-Masked-ac.is)) in record { floats = all.0; counts = all.1 }

pub returns-in-Turns-ac : goal.returns-in-Turns-ac
unfolding closure_between
returns-in-Turns-ac c =
    let a = c.args in
    let all = both_ways a.ab a.bc a.ac c.whole.result (c.whole.ensures ∙ sym (rw (c.in-Turns.is, c.in-Turns-bc.is, c.in-Turns-ac.is))) in
    let exact = to_z-of_z w32 c.whole.result (record { sfits = c.whole.type_inv }) in
    record { floats = rw exact all.0; counts = rw exact all.1 }
