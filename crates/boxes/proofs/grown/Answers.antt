-- `boxes::grown` meets its contract: each end is what `lower` or `upper` ensures.
use Rattle.boxes.specs.Growing.{grown_by}
use Rattle.boxes.proofs.grown.Goals as goal

pub returns : goal.returns
unfolding grown_by
returns c = cc
