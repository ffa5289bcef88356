-- The invariant: the pairs of the cells passed stand at the front, and the rest as it was.
use mathlib.Core.Path.{◌≡◌}
use mathlib.Core.List.{◌++◌, map}
use lib.ListN.{length, drop}
use Rattle.salvaging.specs.Reasons.{why_number}
use Rattle.salvaging.specs.Listed.{pairs_in}
use Rattle.salvaging.proofs.listing.list_dropped.Given as goal

abbrev pub invariant-loop-c : goal.invariant-loop-c
invariant-loop-c l = (l.at ≡ length (pairs_in (map why_number l.whys) l.c)) × (l.list ≡ pairs_in (map why_number l.whys) l.c ++ drop (length (pairs_in (map why_number l.whys) l.c)) l.initial.list)
