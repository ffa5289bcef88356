-- `boxes::coordinates::finite` meets its contract: only a finite float less itself is 0.0.
use lib.Ieee.{of_bits}
use Rattle.floats.proofs.Ordered.{less-itself}
use Rattle.boxes.proofs.coordinates.finite.Goals as goal

pub returns : goal.returns
unfolding of_bits
returns c = less-itself c.args.x
