-- The pairs of the cells dropped fit the list.
use native.Mathlib.Omega.{arith}
use Rattle.telling.proofs.Answered.{pairs-fit}
use Rattle.daysalvage.proofs.main.Goals as goal

pub tell-requires : goal.tell-requires
tell-requires c = omega (arith, pairs-fit _ _ _ c.answer-outcome.ensures.known, c.answer-outcome.auto.dropped)
