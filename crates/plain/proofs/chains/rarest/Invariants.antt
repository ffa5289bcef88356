-- Of the members so far none has fewer uses than that at `best`.
use Rattle.std.proofs.Common.{◌<◌, length}
use Rattle.plain.proofs.Uses.{Fewest}
use Rattle.plain.proofs.chains.rarest.Given as goal

abbrev pub invariant-loop-k : goal.invariant-loop-k
invariant-loop-k l = (l.best < length l.set) × Fewest l.many l.set l.best l.k
