-- Each rule is asked for what it makes, and gives d→e.
use native.Mathlib.Omega.{arith}
use Rattle.making.proofs.Dispatch.{low}
use Rattle.making.proofs.append.Goals as goal

pub source_of-cells-requires : goal.source_of-cells-requires
source_of-cells-requires c = (omega (arith, low _ _ _ _ c.requires, c.dim-top.ensures), omega arith)

pub source_of-own-requires : goal.source_of-own-requires
source_of-own-requires c = (omega arith, omega (arith, low _ _ _ _ c.requires, c.dim-top.ensures))

pub source_of-back-requires : goal.source_of-back-requires
source_of-back-requires c = (omega (arith, low _ _ _ _ c.requires, c.dim-top.ensures), omega arith)

pub source_of-source-requires : goal.source_of-source-requires
source_of-source-requires c = let l = low _ _ _ _ c.requires in (l.1.0, l.0)

pub source_of-own-requires-2 : goal.source_of-own-requires-2
source_of-own-requires-2 c = ((low _ _ _ _ c.requires).0, omega arith)

pub source_of-back-requires-2 : goal.source_of-back-requires-2
source_of-back-requires-2 c = (omega arith, (low _ _ _ _ c.requires).1.0)

pub source_of-sub-requires : goal.source_of-sub-requires
source_of-sub-requires c = ((low _ _ _ _ c.requires).1.0, omega arith)
