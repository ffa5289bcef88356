-- Four stores.
use mathlib.Core.Path.{refl}
use Rattle.settle.specs.Settled.{headed}
use Rattle.settle.proofs.set_head.Goals as goal

pub returns : goal.returns
unfolding headed
returns c = refl
