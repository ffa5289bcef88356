-- The vertices of the entities so far are written.
use Rattle.building.specs.Sets.{vertices}
use Rattle.relations.proofs.Listing.{Listing}
use Rattle.building.proofs.meet.Met.write_indices.Given as goal

abbrev pub invariant-loop-i : goal.invariant-loop-i
invariant-loop-i l = Listing l.initial.book l.initial.to l.i-end 3 (vertices l.d l.self-inside.sets) l.book l.to l.i
