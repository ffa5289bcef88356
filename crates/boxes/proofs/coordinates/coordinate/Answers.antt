-- `boxes::coordinates::coordinate` meets its contract: 0.0 past the axes and past the list.
use mathlib.Core.Path.{sym}
use native.Mathlib.Omega.{arith}
use borrow.Author.Tests.{lt-ltb, le-ltb}
use Prim.Native.Nat.{◌+◌, ◌*◌}
use lib.ListN.{get_or-eq_default}
use lib.Ieee.{nan, of_bits}
use Rattle.rules.proofs.Tests.{get_or-inside}
use Rattle.rules.specs.Boxes.{float_zero, coordinate}
use Rattle.boxes.proofs.coordinates.coordinate.Goals as goal

pub returns-then-axes-k : goal.returns-then-axes-k
unfolding coordinate float_zero of_bits
returns-then-axes-k c = rw (le-ltb c.args.k c.args.axes (omega (arith, c.if-axes-k.true, c.requires.axes)))

pub returns-then-at-coordinates : goal.returns-then-at-coordinates
unfolding coordinate float_zero
returns-then-at-coordinates c =
    let args = c.args in
    rw (lt-ltb args.k args.axes c.if-axes-k.false) (get_or-inside args.coordinates.now (args.axes * args.v + args.k) nan float_zero c.if-at-coordinates.true)

pub returns-else-at-coordinates : goal.returns-else-at-coordinates
unfolding coordinate float_zero of_bits
returns-else-at-coordinates c =
    let args = c.args in
    rw (lt-ltb args.k args.axes c.if-axes-k.false) (sym (get_or-eq_default args.coordinates.now float_zero {n = args.axes * args.v + args.k} c.if-at-coordinates.false))
