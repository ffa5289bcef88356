-- After n turns n pairs are known to go on.
use mathlib.Core.Path.{◌≡◌}
use Prim.Native.Nat.{◌+◌, ◌*◌}
use lib.ListN.{drop}
use Rattle.telling.specs.Runs.{goes_on}
use Rattle.telling.proofs.runs.run_size.Given as goal

abbrev pub invariant-loop-n : goal.invariant-loop-n
invariant-loop-n l = goes_on l.first l.why l.pairs ≡ l.n + goes_on (l.first + l.n) l.why (drop (2 * l.n) l.pairs)
