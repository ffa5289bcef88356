-- The invariant: the cells passed are written, one behind the other.
use mathlib.Core.Path.{◌≡◌}
use Prim.Native.Nat.{◌+◌, ◌*◌}
use lib.ListN.{take}
use Rattle.repeats.specs.Rows.{row_at}
use Rattle.relations.proofs.Listing.{Listing}
use Rattle.loading.proofs.write_cells.Given as goal

abbrev pub invariant-loop-c : goal.invariant-loop-c
invariant-loop-c l = Listing l.initial.book l.initial.to l.c-end l.n (λ i. take l.n (row_at 4 l.words i)) l.book l.to l.c × (l.to ≡ l.initial.to + l.n * l.c)
