-- The invariants: each vertex before i is apart from those after it; vertex i is apart from those before j.
use Prim.Native.Nat.{ℕ, ◌<◌}
use Rattle.rules.proofs.Searched.{ApartFrom}
use Rattle.dayfile.specs.Numbers.{numbers}
use Rattle.salvaging.proofs.cells.named_twice.Given as goal

abbrev pub invariant-loop-j : goal.invariant-loop-j
invariant-loop-j l = ApartFrom (numbers l.v) l.i l.j

abbrev pub invariant-loop-i : goal.invariant-loop-i
invariant-loop-i l = (a : ℕ) → a < l.i → ApartFrom (numbers l.v) a l.n
