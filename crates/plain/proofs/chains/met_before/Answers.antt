-- The invariant: the cells passed do not have the set.
use mathlib.Core.Path.{◌≡◌, refl, sym, ap, ◌∙◌}
use Prim.Native.Nat.{ℕ, ◌≤◌, ◌<◌, ◌-◌, ◌*◌, ◌/◌}
use lib.ListN.{length, get_or}
use Rattle.rules.specs.Lists.{inside}
use Rattle.rules.proofs.Tests.{has-is}
use Rattle.plain.specs.Cells.{cell_at}
use Rattle.plain.proofs.Before.{cell-fits}
use Rattle.plain.proofs.Links.{cell_below, walk-found, walk_end, walk_start}
use native.Mathlib.Omega.{arith}
use Rattle.plain.proofs.chains.met_before.Goals as goal

pub loop-x-init : goal.loop-x-init
loop-x-init c =
    let fits : c.args.at / c.args.size * c.args.size ≤ length c.args.cells.now =
    omega (arith, c.requires.corner.low, c.requires.corner.high) in
    let pos : 0 < c.args.size =
    omega (arith, c.requires.size.0) in
    let s = c in
    let a = s.args in
    let k = s.requires.corner in
    walk_start a.cells.now a.size (a.at / a.size) (get_or a.cells.now a.at 0) a.set.now (pos) (fits) a.earlier.now a.at s.requires.linked k.high k.low refl k.first

pub cell_has-requires : goal.cell_has-requires
cell_has-requires c =
    let fits : c.args.at / c.args.size * c.args.size ≤ length c.args.cells.now =
    omega (arith, c.requires.corner.low, c.requires.corner.high) in
    let pos : 0 < c.args.size =
    omega (arith, c.requires.size.0) in
    let s = c in
    let a = s.args in
    let t = c.loop-x in
    let l = cell_below a.cells.now a.size (a.at / a.size) (get_or a.cells.now a.at 0) a.set.now (pos) (fits) (t.x - 1) (omega (arith, t.invariant.high, c.loop-x-test.true)) in record { cell = (s.requires.size, rw c.cell_of.ensures (cell-fits a.size a.cells.now ((t.x - 1) / a.size) (a.at / a.size) l (fits))); set = s.requires.set }

pub returns-then-cell_has : goal.returns-then-cell_has
returns-then-cell_has c =
    let fits : c.args.at / c.args.size * c.args.size ≤ length c.args.cells.now =
    omega (arith, c.requires.corner.low, c.requires.corner.high) in
    let pos : 0 < c.args.size =
    omega (arith, c.requires.size.0) in
    let tested : c.cell_has.result ≡ inside c.args.set.now (cell_at c.args.size c.args.cells.now ((c.loop-x.x - 1) / c.args.size)) =
    c.cell_has.ensures ∙ ap (λ (b : ℕ). inside c.args.set.now (cell_at c.args.size c.args.cells.now b)) c.cell_of.ensures in
    let s = c in
    let a = s.args in
    let t = c.loop-x in
    sym (walk-found a.cells.now a.size (a.at / a.size) (get_or a.cells.now a.at 0) a.set.now (pos) (fits) t.x t.invariant (omega (arith, c.loop-x-test.true)) (sym (tested) ∙ c.if-cell_has.true))

pub returns : goal.returns
returns c =
    let fits : c.args.at / c.args.size * c.args.size ≤ length c.args.cells.now =
    omega (arith, c.requires.corner.low, c.requires.corner.high) in
    let pos : 0 < c.args.size =
    omega (arith, c.requires.size.0) in
    let s = c in
    let a = s.args in
    let t = c.loop-x in
    sym (walk_end a.cells.now a.size (a.at / a.size) (get_or a.cells.now a.at 0) a.set.now (pos) (fits) t.x t.invariant (omega (arith, c.loop-x-test.false)) (has-is (get_or a.cells.now a.at 0) a.set.now s.requires.corner.one))
