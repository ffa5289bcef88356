-- By dimensions: one inside the other, or two of one dimension.
use Rattle.std.proofs.Common.{◌+◌, sym, ◌∙◌, arith, take}
use Rattle.rules.proofs.Incidence.{incident-down, incident-up}
use Rattle.plain.specs.Cells.{mesh_from}
use Rattle.plain.proofs.Taken.{all-inside, any-meets}
use Rattle.plain.proofs.Said.{mesh-cells, level-same, level-points, level-meets}
use Rattle.plain.proofs.incidence.incident.Goals as goal

pub returns-then-e-d : goal.returns-then-e-d
returns-then-e-d c =
    let a = c.args in
    c.inside_of.ensures ∙ all-inside (take (a.second.dim + 1) a.b) (take (a.first.dim + 1) a.a)
    ∙ rw (c.requires.first_is, c.requires.second_is) (sym (incident-down (mesh_from a.mesh.now.sizes a.mesh.now.words.now) a.first.dim a.second.dim a.first.number a.second.number c.if-e-d.true))

pub returns-then-d-e : goal.returns-then-d-e
returns-then-d-e c =
    let a = c.args in
    c.inside_of-then-d-e.ensures ∙ all-inside (take (a.first.dim + 1) a.a) (take (a.second.dim + 1) a.b)
    ∙ rw (c.requires.first_is, c.requires.second_is) (sym (incident-up (mesh_from a.mesh.now.sizes a.mesh.now.words.now) a.first.dim a.second.dim a.first.number a.second.number c.if-d-e.true))

pub returns-then-j-i : goal.returns-then-j-i
returns-then-j-i c =
    let a = c.args in
    sym (level-same (mesh_from a.mesh.now.sizes a.mesh.now.words.now) a.first.dim a.second.dim a.first.number a.second.number (omega (arith, c.if-d-e.false, c.if-e-d.false)) c.if-j-i.true)

pub returns-then-d-eq0 : goal.returns-then-d-eq0
returns-then-d-eq0 c =
    let a = c.args in
    c.share_cell.ensures
    ∙ sym (level-points (mesh_from a.mesh.now.sizes a.mesh.now.words.now) a.first.dim a.second.dim a.first.number a.second.number (omega (arith, c.if-d-e.false, c.if-e-d.false)) c.if-j-i.false c.if-d-eq0.true ∙ rw (mesh-cells a.mesh.now.sizes a.mesh.now.words.now))

pub returns : goal.returns
returns c =
    let a = c.args in
    c.meets_of.ensures ∙ any-meets (take (a.first.dim + 1) a.a) (take (a.second.dim + 1) a.b)
    ∙ rw (c.requires.first_is, c.requires.second_is) (sym (level-meets (mesh_from a.mesh.now.sizes a.mesh.now.words.now) a.first.dim a.second.dim a.first.number a.second.number (omega (arith, c.if-d-e.false, c.if-e-d.false)) c.if-j-i.false c.if-d-eq0.false))
