-- Rows of one length: the offsets are its multiples, and behind them stand the rows.
use Rattle.relations.proofs.Listing.{even-written}
use Rattle.building.proofs.Rows.{vertices-length, entities-rows}
use Rattle.building.proofs.meet.Met.write.Goals as goal

pub returns : goal.returns
returns c =
    rw (← entities-rows c.args.d _ _ _ c.self.view_is)
    (even-written _ _ (vertices-length _ _ c.requires.size.1) _ c.write_offsets.ensures (rw (← entities-rows c.args.d _ _ _ c.self.view_is) at c.write_indices.ensures))
