-- `closures::step` meets its contract: over floats by the variants at hand, and over counts since that is exact.
use mathlib.Core.Path.{◌≡◌, sym, ap, ap₂, ◌∙◌}
use lib.Dec.{T}
use lib.IntN.{ℤ}
use Rattle.rules.specs.Phases.{counted}
use Rattle.closures.specs.Steps.{reading_of, step_of, step_between}
use Rattle.closures.specs.declared.values.Reading.{Reading}
use Rattle.closures.specs.declared.values.Step.{Step}
use Rattle.closures.specs.declared.values.Step.TheVariants as steps
use Rattle.closures.proofs.Exact.{step-exact}
use Rattle.closures.proofs.step.Goals as goal

-- what is so over floats is so over counts
both_ways : (lower higher : Reading) (r : Step) → r ≡ step_between lower higher
    → (r ≡ step_between lower higher) × ((k j : ℤ) → T (counted k) → T (counted j) → lower ≡ reading_of k → higher ≡ reading_of j → r ≡ step_of k j)
both_ways lower higher r e = (e, (λ k j K J p q. e ∙ ap₂ step_between p q ∙ step-exact k j K J))

pub returns-in-Masked : goal.returns-in-Masked
unfolding step_between
returns-in-Masked c =
    let a = c.args in let all = both_ways a.lower a.higher steps.Masked (sym (ap (λ (r : Reading). step_between r a.higher) c.in-Masked.is)) in record { floats = all.0; counts = all.1 }

pub returns-in-Masked-higher : goal.returns-in-Masked-higher
unfolding step_between
returns-in-Masked-higher c =
    let a = c.args in let all = both_ways a.lower a.higher steps.Masked (sym (ap₂ step_between c.in-Phase.is c.in-Masked-higher.is)) in record { floats = all.0; counts = all.1 }

pub returns-in-Phase-higher : goal.returns-in-Phase-higher
unfolding step_between
returns-in-Phase-higher c =
    let a = c.args in let all = both_ways a.lower a.higher (steps.Turns c.wrapped.result) (ap steps.Turns c.wrapped.ensures ∙ sym (ap₂ step_between c.in-Phase.is c.in-Phase-higher.is)) in record { floats = all.0; counts = all.1 }
