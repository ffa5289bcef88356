-- Each test decides, or leaves the next.
use Rattle.std.proofs.Common.{refl, sym, ◌∙◌}
use Rattle.rules.specs.Truth.{entity}
use Rattle.plain.specs.Cells.{mesh_from}
use Rattle.plain.proofs.Said.{none_first, none-second, both-there, said-none, said-is}
use Rattle.plain.proofs.incidence.worked_out.Goals as goal

pub returns-in_default : goal.returns-in_default
returns-in_default c =
    let a = c.args in
    let e = none_first (mesh_from a.mesh.now.sizes a.mesh.now.words.now) a.first.dim a.second.dim a.first.number a.second.number c.in_default.ensures in
    record { number = sym e; yes = sym (said-none (mesh_from a.mesh.now.sizes a.mesh.now.words.now) a.first.dim a.second.dim a.first.number a.second.number 17 refl e); place = refl }

pub returns-in_default-entity_of : goal.returns-in_default-entity_of
returns-in_default-entity_of c =
    let a = c.args in
    let e = none-second (mesh_from a.mesh.now.sizes a.mesh.now.words.now) a.first.dim a.second.dim a.first.number a.second.number c.in-Some.ensures.below c.in_default-entity_of.ensures in
    record { number = sym e; yes = sym (said-none (mesh_from a.mesh.now.sizes a.mesh.now.words.now) a.first.dim a.second.dim a.first.number a.second.number 19 refl e); place = refl }

pub incident-requires : goal.incident-requires
unfolding entity
incident-requires c =
    record { dims = c.requires.dims.1; first_is = c.in-Some.ensures.set; second_is = c.in-Some-entity_of.ensures.set }

pub returns : goal.returns
returns c =
    let a = c.args in
    let e = both-there (mesh_from a.mesh.now.sizes a.mesh.now.words.now) a.first.dim a.second.dim a.first.number a.second.number c.in-Some.ensures.below c.in-Some-entity_of.ensures.below in
    record { number = sym e; yes = c.incident.ensures ∙ sym (said-is (mesh_from a.mesh.now.sizes a.mesh.now.words.now) a.first.dim a.second.dim a.first.number a.second.number e); place = refl }
