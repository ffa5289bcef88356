-- The table is filled up to the place.
use Rattle.std.proofs.Common.{get_or}
use Rattle.rules.specs.Chains.{Chains}
use Rattle.plain.proofs.chains.link.Given as goal

abbrev pub invariant-loop-p : goal.invariant-loop-p
invariant-loop-p l = Chains (λ q. get_or l.cells q 0) 8192 16384 l.last l.earlier l.p
