-- The first k words are the cell's.
use Rattle.std.proofs.Common.{◌≡◌, length, take, drop}
use Rattle.plain.proofs.stored.cell_at.Given as goal

abbrev pub invariant-loop-k : goal.invariant-loop-k
invariant-loop-k l = (length l.r ≡ 4) × (take l.k l.r ≡ take l.k (drop l.first l.cells))
