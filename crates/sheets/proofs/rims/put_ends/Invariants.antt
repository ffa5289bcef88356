-- The invariant: the ends of the edges passed stand at the front.
use mathlib.Core.Path.{◌≡◌}
use mathlib.Core.List.{List, ◌++◌, map}
use Prim.Native.Nat.{ℕ}
use lib.ListN.{length, take, drop}
use Rattle.rules.specs.Lists.{joined}
use Rattle.rules.specs.Sheet.{ends_at}
use Rattle.sheets.proofs.rims.put_ends.Given as goal

-- the ends of the first j edges
abbrev pub front : List ℕ → List ℕ → ℕ → List ℕ
front ws edges j = joined (map (ends_at ws) (take j edges))

abbrev pub invariant-loop-j : goal.invariant-loop-j
invariant-loop-j l = l.out ≡ front l.triangles.book.now l.edges l.j ++ drop (length (front l.triangles.book.now l.edges l.j)) l.initial.out
