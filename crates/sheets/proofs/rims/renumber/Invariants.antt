-- The invariant: the vertices passed are replaced by their places, and the rest as it was.
use mathlib.Core.Path.{◌≡◌}
use mathlib.Core.List.{List, ◌++◌, map}
use Prim.Native.Nat.{ℕ}
use lib.ListN.{take, drop}
use lib.Dec.{eqb}
use Rattle.rules.specs.Lists.{first_at}
use Rattle.sheets.proofs.rims.renumber.Given as goal

-- the first i vertices are replaced
abbrev pub replaced : (ℕ → ℕ) → List ℕ → ℕ → List ℕ
replaced g xs i = map g (take i xs) ++ drop i xs

abbrev pub invariant-loop-end : goal.invariant-loop-end
invariant-loop-end l = l.end-items ≡ replaced (λ v. first_at (eqb v) l.vertices) l.initial.end-items l.end-index
