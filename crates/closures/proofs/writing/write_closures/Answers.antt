-- `closures::writing::write_closures` meets its contract. The loop's invariant: below i the list is filled.
use mathlib.Core.Path.{◌∙◌}
use lib.ListN.{length}
use lib.IntN.{pos}
use mir.Syntax.{w32}
use mir.ValLaws.{to_z-of_z}
use Rattle.rules.proofs.Placed.{placed-more, placed-all}
use Rattle.closures.proofs.Rowing.{triple-part, triple-rowed}
use Rattle.closures.proofs.writing.write_closures.Invariants.{closed}
use Rattle.closures.proofs.writing.write_closures.Goals as goal

pub face_closure-requires : goal.face_closure-requires
face_closure-requires c =
    let a = c.args in
    rw (triple-part (length a.closures.now) a.faces.now a.counts.now c.loop-i.i c.loop-i-test.true c.requires)
    (triple-rowed (length a.closures.now) a.faces.now a.counts.now c.loop-i.i c.loop-i-test.true c.requires)

pub loop-i-preserved : goal.loop-i-preserved
loop-i-preserved c =
    let a = c.args in
    let e = rw (triple-part (length a.closures.now) a.faces.now a.counts.now c.loop-i.i c.loop-i-test.true c.requires) at c.face_closure.ensures in
    placed-more (closed a.counts.now a.faces.now) (pos 0) (length a.closures.now) c.loop-i.i c.loop-i.closures _ c.loop-i.invariant c.loop-i-test.true
    (to_z-of_z w32 c.face_closure.result (record { sfits = c.face_closure.type_inv }) ∙ e)

pub returns : goal.returns
returns c =
    let t = c.loop-i in
    let args = c.args in
    placed-all (closed args.counts.now args.faces.now) (pos 0) (length args.closures.now) t.i t.closures t.invariant c.loop-i-test.false
