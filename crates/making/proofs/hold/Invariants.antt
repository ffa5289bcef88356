-- Every make keeps the book on the way to k, and the sum of powers of two grows, which stays below 2^16.
use Prim.Native.Nat.{◌-◌, ◌^◌}
use lib.ListN.{get_or}
use Rattle.rules.proofs.Growing.{Under}
use Rattle.making.proofs.hold.Given as goal

abbrev pub invariant-loop-book : goal.invariant-loop-book
invariant-loop-book l = Under l.initial.book l.k l.book

abbrev pub decreases-loop-book : goal.decreases-loop-book
decreases-loop-book l = 2 ^ 16 - get_or l.book 1 0
