-- The three cases: a vertex, what lies between, and a cell.
use Rattle.std.proofs.Common.{arith}
use Rattle.plain.proofs.Said.{found-vertex, no-vertex, mid-entities, found-cell, no_cell}
use Rattle.plain.proofs.incidence.entity_of.Goals as goal

pub returns-then-i-mesh : goal.returns-then-i-mesh
returns-then-i-mesh c = let a = c.args in found-vertex a.mesh.now.sizes a.mesh.now.words.now a.entity.dim a.entity.number c.if-entity-eq0.true c.if-i-mesh.true

pub returns-else-i-mesh : goal.returns-else-i-mesh
returns-else-i-mesh c = let a = c.args in no-vertex a.mesh.now.sizes a.mesh.now.words.now a.entity.dim a.entity.number c.if-entity-eq0.true c.if-i-mesh.false

pub returns-then-entity-mesh : goal.returns-then-entity-mesh
returns-then-entity-mesh c =
    let a = c.args in
    rw (mid-entities a.mesh.now.sizes a.mesh.now.words.now a.entity.dim (omega (arith, c.if-entity-eq0.false)) c.if-entity-mesh.true) c.seek.ensures

pub returns-then-at-mesh : goal.returns-then-at-mesh
returns-then-at-mesh c =
    let a = c.args in
    found-cell a.mesh.now.sizes a.mesh.now.words.now a.entity.dim a.entity.number c.requires.dim.0 (omega (arith, c.if-entity-mesh.false, c.requires.dim)) c.if-at-mesh.true _ c.cell_at.ensures

pub returns-else-at-mesh : goal.returns-else-at-mesh
returns-else-at-mesh c =
    let a = c.args in
    no_cell a.mesh.now.sizes a.mesh.now.words.now a.entity.dim a.entity.number c.requires.dim.0 (omega (arith, c.if-entity-mesh.false, c.requires.dim)) c.if-at-mesh.false
