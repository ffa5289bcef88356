-- The vertices of the entities so far are written.
use Rattle.std.proofs.Common.{◌≡◌, ◌+◌, arith}
use Rattle.relations.proofs.Listing.{listing_none, listing-more, listing-all}
use Rattle.building.proofs.Rows.{entities-rows}
use Rattle.building.proofs.meet.Met.write_indices.Goals as goal

pub loop-i-init : goal.loop-i-init
loop-i-init c = listing_none _ _ _ _ _

pub loop-i-preserved : goal.loop-i-preserved
loop-i-preserved c =
    let d = c.args.d in
    let to = c.loop-i.to in
    let e : to + (d + 1) ≡ to + d + 1 = omega arith in
    listing-more c.loop-i.invariant c.loop-i-test.true _ (to + d + 1) c.write_set.auto.book (omega arith) (rw e at c.write_set.ensures)

pub returns : goal.returns
returns c = rw (entities-rows c.args.d _ _ _ c.self.view_is) at (listing-all c.loop-i.invariant c.loop-i-test.false)
