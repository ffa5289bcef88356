-- The invariant: the box that the vertices still to come make of the one in the local is the box that is wanted.
use Rattle.std.proofs.Common.{◌≡◌, ◌+◌, get_or}
use Rattle.boxes.specs.Growing.{point_of, begins_as}
use Rattle.boxes.proofs.Growing.{grown_from}
use Rattle.boxes.proofs.box_over.Given as goal

abbrev pub invariant-loop-v : goal.invariant-loop-v
invariant-loop-v l = grown_from l.axes l.coordinates l.bounds l.vertices (l.v-index + 1) ≡ grown_from l.axes l.coordinates (begins_as (point_of l.axes l.coordinates (get_or l.vertices 0 0))) l.vertices 1
