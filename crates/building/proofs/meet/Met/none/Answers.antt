-- No entity, and no chain.
use Rattle.building.proofs.Chained.{chained-none}
use Rattle.building.proofs.Entities.{entities-none}
use Rattle.building.proofs.meet.Met.none.Goals as goal

pub invariant_of-result : goal.invariant_of-result
invariant_of-result c = chained-none

pub returns : goal.returns
returns c = entities-none _
