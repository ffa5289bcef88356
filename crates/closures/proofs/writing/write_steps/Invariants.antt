-- `closures::writing::write_steps` meets its contract. The loop's invariant: below i both lists are filled.
use mathlib.Core.List.{List}
use Prim.Native.Nat.{ℕ}
use lib.IntN.{ℤ}
use lib.Ieee.{Float, nan}
use Rattle.rules.proofs.Placed.{Placed}
use Rattle.rules.specs.Closures.{edge_step, edge_byte}
use Rattle.closures.specs.Rows.{pair_at}
use Rattle.closures.proofs.writing.write_steps.Given as goal

abbrev pub marked : List ℤ → List ℕ → ℕ → ℕ
marked counts edges k = edge_byte counts (pair_at edges k)

-- what is written for each edge
abbrev pub stepped : List ℤ → List ℕ → ℕ → Float
stepped counts edges k = edge_step counts (pair_at edges k)

abbrev pub invariant-loop-i : goal.invariant-loop-i
invariant-loop-i l = Placed (stepped l.counts l.edges) nan l.n l.i l.steps × Placed (marked l.counts l.edges) 0 l.n l.i l.bytes
