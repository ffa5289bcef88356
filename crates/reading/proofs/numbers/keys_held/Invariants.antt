-- The invariant: n of the keys passed are held.
use mathlib.Core.Path.{◌≡◌}
use Prim.Native.Nat.{◌≤◌}
use lib.ListN.{length}
use Rattle.rules.specs.Lists.{up_to, keep}
use Rattle.rules.specs.Book.{held}
use Rattle.reading.proofs.numbers.keys_held.Given as goal

abbrev pub invariant-loop-k : goal.invariant-loop-k
invariant-loop-k l = (l.n ≤ l.k) × (l.n ≡ length (keep (held l.book) (up_to l.k)))
