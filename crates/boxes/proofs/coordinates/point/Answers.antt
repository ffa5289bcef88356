-- `boxes::coordinates::point` meets its contract, coordinate by coordinate.
use Rattle.boxes.specs.Growing.{point_of}
use Rattle.boxes.proofs.coordinates.point.Goals as goal

pub returns : goal.returns
unfolding point_of
returns c = cc
