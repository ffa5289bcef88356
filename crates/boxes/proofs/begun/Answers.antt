-- `boxes::begun` meets its contract, as it is written.
use mathlib.Core.Path.{refl}
use Rattle.boxes.specs.Growing.{begins_as}
use Rattle.boxes.proofs.begun.Goals as goal

pub returns : goal.returns
unfolding begins_as
returns c = refl
