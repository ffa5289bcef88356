-- The invariant: the offsets so far are written.
use native.Mathlib.Omega.{arith}
use Rattle.relations.proofs.Stepping.{stepping-none, stepping-more}
use Rattle.relations.proofs.words.write_offsets.Goals as goal

pub loop-i-init : goal.loop-i-init
loop-i-init c = stepping-none _ _ _ _

pub loop-i-preserved : goal.loop-i-preserved
loop-i-preserved c =
    let l = c in
    stepping-more l.loop-i.invariant (omega (arith, l.loop-i-test.true)) _ c.put.ensures
