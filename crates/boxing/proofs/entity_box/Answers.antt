-- A vertex is its own; any other entity has at least one vertex in its row of d→0.
use mathlib.Core.Path.{◌∙◌}
use native.Mathlib.Omega.{arith}
use Rattle.boxing.proofs.Ready.{dimension-low, some-vertex, vertex-box, row-box}
use Rattle.boxing.proofs.entity_box.Goals as goal

pub returns-then-d-eq0 : goal.returns-then-d-eq0
returns-then-d-eq0 c =
    let v = c in
    let a = v.args in
    rw (v.if-d-eq0.true, c.begun.ensures, c.point.ensures) (vertex-box a.book.now a.coordinates.now a.axes a.i)

pub key-requires : goal.key-requires
key-requires c =
    let s = c in
    (dimension-low s.args.book.now s.args.d s.args.axes s.args.i s.requires, omega arith)

pub box_over-requires : goal.box_over-requires
box_over-requires c =
    let s = c in
    let a = s.args in
    (s.requires.mesh.few, rw (c.row.ensures.words, c.key.ensures) (some-vertex a.book.now a.d a.axes a.i s.requires (omega (arith, c.if-d-eq0.false))))

pub returns : goal.returns
returns c =
    let r = c in
    let a = r.args in
    c.box_over.ensures ∙ rw (r.row.ensures.words, r.key.ensures) (row-box a.book.now a.coordinates.now a.axes a.d a.i r.if-d-eq0.false)
