-- The invariants: none is found yet, and no cell before c names a vertex twice; each vertex before i is apart from those after it; vertex i is apart from those before j.
use mathlib.Core.Path.{◌≡◌}
use mathlib.Core.Bool.{false}
use Prim.Native.Nat.{ℕ, ◌<◌}
use lib.ListN.{take}
use Rattle.std.specs.Prelude.{None}
use Rattle.rules.specs.File.{twice}
use Rattle.rules.proofs.Searched.{ApartFrom}
use Rattle.repeats.specs.Rows.{row_at}
use Rattle.dayfile.specs.Numbers.{numbers}
use Rattle.dayfile.proofs.faults.first_twice.Given as goal

abbrev pub invariant-loop-j : goal.invariant-loop-j
invariant-loop-j l = (l.found ≡ None) × ApartFrom (numbers l.v) l.i l.j

abbrev pub invariant-loop-i : goal.invariant-loop-i
invariant-loop-i l = (l.found ≡ None) × ((a : ℕ) → a < l.i → ApartFrom (numbers l.v) a l.n)

abbrev pub invariant-cells : goal.invariant-cells
invariant-cells l = (l.found ≡ None) × ((k : ℕ) → k < l.c → twice (take l.n (row_at 4 l.words k)) ≡ false)
