-- What is built from the cells so far is counted.
use Rattle.std.proofs.Common.{◌≡◌, ◌+◌, arith}
use Rattle.rules.specs.Made.{built}
use Rattle.plain.proofs.Before.{before-none}
use Rattle.plain.proofs.Seeking.{cells-found, cells-next}
use Rattle.plain.proofs.numbering.seek.Goals as goal

pub loop-c-init : goal.loop-c-init
unfolding built
loop-c-init c = let a = c.args in rw (before-none (a.mesh.now.sizes.dim + 1) a.mesh.now.words.now) (omega arith)

pub returns-in-Ok : goal.returns-in-Ok
returns-in-Ok c =
    let p = c.requires in
    cells-found c.args.mesh.now.cells p.between.0 p.between.1 c.loop-c.c c.loop-c.left c.args.entity.number c.loop-c-test.true c.loop-c.invariant c.in-Ok.set c.in-Ok.ensures

pub loop-c-preserved : goal.loop-c-preserved
loop-c-preserved c =
    let p = c.requires in
    cells-next c.args.mesh.now.cells p.between.0 p.between.1 c.loop-c.c c.loop-c.left c.args.entity.number c.loop-c-test.true c.loop-c.invariant c.in-Err.rest c.in-Err.ensures

pub returns : goal.returns
returns c =
    let e : c.loop-c.c ≡ c.args.mesh.now.sizes.cells = omega arith in
    omega (arith, rw e at c.loop-c.invariant)
