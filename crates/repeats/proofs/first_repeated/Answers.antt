-- The invariant: the rows passed are in the chains, and none of them equals an earlier one.
use mathlib.Core.Path.{◌≡◌, sym, ◌∙◌}
use native.Mathlib.Omega.{arith}
use borrow.Author.Count.{below_more}
use Rattle.rules.specs.Lists.{repeated}
use Rattle.rules.proofs.Chained.{chains-none}
use Rattle.repeats.specs.Rows.{rows_in}
use Rattle.repeats.proofs.Among.{repeated-among, first-row}
use Rattle.repeats.proofs.first_repeated.Goals.{After-meet}
use Rattle.repeats.proofs.first_repeated.Goals as goal

pub loop-i-init : goal.loop-i-init
loop-i-init c = (chains-none _ 8192 4096, λ j l. absurd (omega arith))

-- what the call told of row i
met : (c : After-meet) → repeated (rows_in c.args.size c.args.words.now c.args.n) c.loop-i.i ≡ c.meet.result
met c = repeated-among c.args.size c.args.words.now c.args.n c.loop-i.i c.loop-i-test.true ∙ sym c.meet.ensures.value

pub returns-then-meet : goal.returns-then-meet
returns-then-meet c =
    let a = c.args in
    first-row a.size a.words.now a.n c.loop-i.i (omega arith) c.loop-i.invariant.1 (λ m. met (goal.at.returns-then-meet c).After-meet ∙ c.if-meet.true)

pub loop-i-preserved : goal.loop-i-preserved
loop-i-preserved c = (c.meet.ensures.added c.if-meet.false, below_more _ _ c.loop-i.invariant.1 (met (goal.at.loop-i-preserved c).After-meet ∙ c.if-meet.false))

pub returns : goal.returns
returns c =
    let a = c.args in
    first-row a.size a.words.now a.n a.n (omega arith) (λ j m. c.loop-i.invariant.1 j (omega arith)) (λ m. absurd (omega arith))
