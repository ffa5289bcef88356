-- After n turns n pairs are known to go on.
use native.Mathlib.Omega.{arith}
use Rattle.telling.specs.Runs.{run_size}
use Rattle.telling.proofs.Going.{run-all, run-gap, run-other, run_on}
use Rattle.telling.proofs.runs.run_size.Goals as goal

pub returns-then-pairs-n-clause-size : goal.returns-then-pairs-n-clause-size
unfolding run_size
returns-then-pairs-n-clause-size c = run-gap _ _ _ _ c.loop-n.invariant (omega arith) (λ e. omega arith)

pub returns-then-pairs-n-2-clause-size : goal.returns-then-pairs-n-2-clause-size
unfolding run_size
returns-then-pairs-n-2-clause-size c = run-other _ _ _ _ c.loop-n.invariant (omega arith) (omega arith) (λ e. omega arith)

pub loop-n-preserved : goal.loop-n-preserved
loop-n-preserved c = run_on _ _ _ _ c.loop-n.invariant (omega arith) (omega arith) (omega arith)

pub returns-clause-size : goal.returns-clause-size
unfolding run_size
returns-clause-size c = omega (arith, run-all _ _ _ _ c.loop-n.invariant (omega arith))
