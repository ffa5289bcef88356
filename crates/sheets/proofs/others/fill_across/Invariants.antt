-- The invariant: the cells across from the cells passed stand at the front, and the rest as it was.
use mathlib.Core.Path.{◌≡◌}
use mathlib.Core.List.{List, ◌++◌, map}
use Prim.Native.Nat.{ℕ}
use lib.ListN.{length, drop}
use Rattle.rules.specs.Lists.{up_to, joined}
use Rattle.rules.specs.Sheet.{edges_of, across_at}
use Rattle.sheets.proofs.others.fill_across.Given as goal

-- the cells across from cell c, and those of the first c cells
abbrev pub side : List ℕ → ℕ → List ℕ
side ws c = map (across_at ws c) (edges_of ws c)

abbrev pub sides : List ℕ → ℕ → List ℕ
sides ws c = joined (map (side ws) (up_to c))

abbrev pub invariant-loop-c : goal.invariant-loop-c
invariant-loop-c l = l.out ≡ sides l.triangles.book.now l.c ++ drop (length (sides l.triangles.book.now l.c)) l.initial.out
