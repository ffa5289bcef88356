-- Every step keeps the mask at the end, and the mask grows, which stays below 2^16.
use mathlib.Core.Bool.{not}
use mathlib.Core.Path.{◌∙◌, ap}
use native.Mathlib.Omega.{arith}
use Rattle.making.proofs.Differing.{ends, next-near, more-small, more, more_same}
use Rattle.making.proofs.mask_with.Goals as goal

pub overflow_shl-now : goal.overflow_shl-now
overflow_shl-now c = omega (arith, next-near c.requires _ c.loop-now.invariant.0 _ c.named.ensures (ap not c.loop-now-test.true) _ c.next_key.ensures)

pub overflow_add-now : goal.overflow_add-now
overflow_add-now c = record { fits = omega (arith, more-small c.requires _ c.loop-now.invariant.0 _ c.named.ensures (ap not c.loop-now-test.true) _ c.next_key.ensures) }

pub loop-now-smaller : goal.loop-now-smaller
loop-now-smaller c =
    let a = more-small c.requires _ c.loop-now.invariant.0 _ c.named.ensures (ap not c.loop-now-test.true) _ c.next_key.ensures in
    let b = more c.requires _ c.loop-now.invariant.0 _ c.named.ensures (ap not c.loop-now-test.true) _ c.next_key.ensures in
    omega arith

pub loop-now-preserved : goal.loop-now-preserved
loop-now-preserved c = (
  more-small c.requires _ c.loop-now.invariant.0 _ c.named.ensures (ap not c.loop-now-test.true) _ c.next_key.ensures,
  more_same c.requires _ c.loop-now.invariant.0 _ c.named.ensures (ap not c.loop-now-test.true) _ c.next_key.ensures ∙ c.loop-now.invariant.1,
)

pub returns : goal.returns
returns c = ends c.requires _ c.loop-now.invariant.0 _ c.named.ensures (ap not c.loop-now-test.false) ∙ c.loop-now.invariant.1
