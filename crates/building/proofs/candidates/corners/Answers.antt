-- Four words read one after another.
use Rattle.dayfile.specs.Numbers.{numbers}
use Rattle.building.proofs.candidates.corners.Goals as goal

pub returns : goal.returns
unfolding numbers
returns c = cc
