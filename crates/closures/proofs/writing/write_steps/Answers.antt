-- `closures::writing::write_steps` meets its contract. The loop's invariant: below i both lists are filled.
use mathlib.Core.Path.{ap, ◌∙◌}
use lib.ListN.{length}
use lib.Ieee.{nan}
use Rattle.rules.proofs.Placed.{placed-more, placed-all}
use Rattle.closures.specs.Steps.{turns_written, byte_written}
use Rattle.closures.proofs.Rowing.{edge-turns, edge-byte, pair-part, pair-rowed}
use Rattle.closures.specs.Rows.{pair_at}
use Rattle.closures.proofs.writing.write_steps.Invariants.{marked, stepped}
use Rattle.closures.proofs.writing.write_steps.Goals as goal

pub edge_step-s-requires : goal.edge_step-s-requires
edge_step-s-requires c =
    let a = c.args in
    rw (pair-part (length a.steps.now) a.edges.now a.counts.now c.loop-i.i c.loop-i-test.true c.requires.rowed)
    (pair-rowed (length a.steps.now) a.edges.now a.counts.now c.loop-i.i c.loop-i-test.true c.requires.rowed)

pub loop-i-preserved : goal.loop-i-preserved
loop-i-preserved c =
    let t = c.loop-i in
    let args = c.args in
    let n = length args.steps.now in
    let e = rw (pair-part n args.edges.now args.counts.now t.i c.loop-i-test.true c.requires.rowed) at c.edge_step-s.ensures in (
      placed-more (stepped args.counts.now args.edges.now) nan n t.i t.steps _ t.invariant.0 c.loop-i-test.true
          (c.turns_written.ensures ∙ ap turns_written e ∙ edge-turns args.counts.now (pair_at args.edges.now t.i)),
      placed-more (marked args.counts.now args.edges.now) 0 n t.i t.bytes _ t.invariant.1 c.loop-i-test.true
          (c.byte_written.ensures ∙ ap byte_written e ∙ edge-byte args.counts.now (pair_at args.edges.now t.i)),
    )

pub returns : goal.returns
returns c =
    let t = c.loop-i in
    let args = c.args in
    let n = length args.steps.now in
    record {
      steps = placed-all (stepped args.counts.now args.edges.now) nan n t.i t.steps t.invariant.0 c.loop-i-test.false;
      bytes = placed-all (marked args.counts.now args.edges.now) 0 n t.i t.bytes t.invariant.1 c.loop-i-test.false;
    }
