-- The six ends stand in the order of the rules.
use mathlib.Core.Path.{refl}
use Rattle.boxes.specs.Growing.{ends_of}
use Rattle.boxes.proofs.shapes.ArrayF646FromBounds.from.Goals as goal

pub returns : goal.returns
unfolding ends_of
returns c = refl
