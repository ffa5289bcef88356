-- The invariant: the bytes now, with the vertices from k on still to come, are the bytes at the start with all of them; past the end nothing is written.
use mathlib.Core.Path.{sym, ap, ◌∙◌}
use native.Mathlib.Omega.{arith}
use lib.ListN.{length, get_or}
use Rattle.rules.proofs.BitsWritten.{length-with, bytes-with}
use Rattle.dayfile.proofs.Filled.{fields-step, fields-end, fields-past}
use Rattle.dayfile.proofs.written.write_vertices.Goals as goal

pub returns-then-at-bytes : goal.returns-then-at-bytes
returns-then-at-bytes c =
    let t = c.loop-vertex in
    sym (fields-past t.bytes t.at _ t.invariant.1 (omega arith)) ∙ t.invariant.2

pub loop-vertex-preserved : goal.loop-vertex-preserved
loop-vertex-preserved c =
    let a = c.args in
    let t = c.loop-vertex in
    let e = c.write_field.ensures in (
      ap length e ∙ length-with t.bytes t.at 13 (get_or a.vertices.now t.vertex-index 0) ∙ t.invariant.0,
      rw e (bytes-with t.bytes t.at 13 (get_or a.vertices.now t.vertex-index 0)),
      rw e (sym (fields-step t.bytes t.at t.vertex-index a.vertices.now (omega arith)) ∙ t.invariant.2),
    )

pub returns : goal.returns
returns c =
    let t = c.loop-vertex in
    sym (fields-end t.bytes t.at t.vertex-index c.args.vertices.now (omega arith)) ∙ t.invariant.2
