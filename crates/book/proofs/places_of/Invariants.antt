-- The invariant: each place up to the k-th is right.
use mathlib.Core.Path.{◌≡◌}
use Prim.Native.Nat.{ℕ, ◌≤◌}
use lib.ListN.{length, get_or}
use Rattle.rules.specs.Book.{place}
use Rattle.book.specs.Numbers.{numbers}
use Rattle.book.proofs.places_of.Given as goal

abbrev pub invariant-loop-k : goal.invariant-loop-k
invariant-loop-k l = (length l.at ≡ 17) × ((j : ℕ) → j ≤ l.k → get_or (numbers l.at) j 0 ≡ place l.book j)
