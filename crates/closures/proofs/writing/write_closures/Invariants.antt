-- `closures::writing::write_closures` meets its contract. The loop's invariant: below i the list is filled.
use mathlib.Core.List.{List}
use Prim.Native.Nat.{ℕ}
use lib.IntN.{ℤ, pos}
use Rattle.rules.proofs.Placed.{Placed}
use Rattle.rules.specs.Closures.{face_closure}
use Rattle.closures.specs.Rows.{triple_at}
use Rattle.closures.proofs.writing.write_closures.Given as goal

-- what is written for each face
abbrev pub closed : List ℤ → List ℕ → ℕ → ℤ
closed counts faces k = face_closure counts (triple_at faces k)

abbrev pub invariant-loop-i : goal.invariant-loop-i
invariant-loop-i l = Placed (closed l.counts l.faces) (pos 0) l.n l.i l.closures
