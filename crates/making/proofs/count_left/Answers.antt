-- Case by case, as N_x after a drop is defined.
use mathlib.Core.Bool.{not}
use mathlib.Core.Path.{◌∙◌, ap}
use native.Mathlib.Omega.{arith}
use Rattle.making.proofs.TakenOut.{left-cells, left-unnamed, left-named}
use Rattle.making.proofs.count_left.Goals as goal

pub returns-then-x-dim : goal.returns-then-x-dim
returns-then-x-dim c = left-cells _ _ _ (omega (arith, c.dim.ensures, c.if-x-dim.true))

pub returns-then-not-mentions : goal.returns-then-not-mentions
returns-then-not-mentions c = left-unnamed _ _ _ (omega (arith, c.dim.ensures, c.if-x-dim.false)) _ c.mentions.ensures (ap not c.if-not-mentions.true)

pub returns : goal.returns
returns c = c.word.ensures ∙ left-named _ _ _ (omega (arith, c.dim.ensures, c.if-x-dim.false)) _ c.mentions.ensures (ap not c.if-not-mentions.false)
