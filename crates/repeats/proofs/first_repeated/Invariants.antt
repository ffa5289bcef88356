-- The invariant: the rows passed are in the chains, and none of them equals an earlier one.
use mathlib.Core.Path.{◌≡◌}
use mathlib.Core.Bool.{false}
use Prim.Native.Nat.{ℕ, ◌<◌}
use Rattle.rules.specs.Lists.{repeated}
use Rattle.rules.specs.Chains.{Chains}
use Rattle.repeats.specs.Rows.{rows_in, bucket_at}
use Rattle.repeats.proofs.first_repeated.Given as goal

abbrev pub invariant-loop-i : goal.invariant-loop-i
invariant-loop-i l =
    Chains (bucket_at l.size l.words) 8192 4096 l.head l.next l.i
    × ((j : ℕ) → j < l.i → repeated (rows_in l.size l.words l.n) j ≡ false)
