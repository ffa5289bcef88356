-- The invariant: the row is among those below the walk's place exactly where it is among all.
use mathlib.Core.Path.{◌≡◌, sym, ◌∙◌}
use Prim.Native.Nat.{◌-◌}
use native.Mathlib.Omega.{arith}
use Rattle.rules.specs.Lists.{same}
use Rattle.repeats.specs.Rows.{row_at, rows_in}
use Rattle.repeats.proofs.Walked.{walk_end, walk-found, walk-on}
use Rattle.repeats.proofs.Among.{bucket-only}
use Rattle.repeats.proofs.in_chain.Goals as goal

pub returns-then-equal : goal.returns-then-equal
unfolding rows_in
returns-then-equal c =
    let compared : c.equal.result ≡ same c.args.row.now (row_at c.args.size c.args.words.now (c.loop-p.p - 1)) =
    c.equal.ensures ∙ rw c.row_at.ensures in
    walk-found c.loop-p.invariant (omega (arith, c.loop-p-test.true)) (sym (compared) ∙ c.if-equal.true)

pub loop-p-preserved : goal.loop-p-preserved
loop-p-preserved c =
    let compared : c.equal.result ≡ same c.args.row.now (row_at c.args.size c.args.words.now (c.loop-p.p - 1)) =
    c.equal.ensures ∙ rw c.row_at.ensures in
    walk-on c.loop-p.invariant (omega (arith, c.loop-p-test.true)) c.requires.links (bucket-only _ _ _) (sym compared ∙ c.if-equal.false)

pub returns : goal.returns
unfolding rows_in
returns c = walk_end c.loop-p.invariant c.loop-p-test.false
