-- The invariant: the cells passed are the one itself.
use mathlib.Core.Path.{◌≡◌}
use Prim.Native.Nat.{ℕ, ◌<◌}
use lib.ListN.{get_or}
use Rattle.rules.specs.Sheet.{cells_at}
use Rattle.sheets.proofs.others.other.Given as goal

abbrev pub invariant-loop-j : goal.invariant-loop-j
invariant-loop-j l = (i : ℕ) → i < l.j-index → get_or (cells_at l.triangles.book.now l.k) i 0 ≡ l.c
