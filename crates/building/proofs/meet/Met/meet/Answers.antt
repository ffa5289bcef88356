-- A candidate not met before is put behind the others.
use Rattle.std.proofs.Common.{sym, ◌∙◌}
use Rattle.rules.specs.Made.{met}
use Rattle.building.proofs.meet.Met.meet.Goals as goal

pub returns-then-not-has : goal.returns-then-not-has
unfolding met
returns-then-not-has c = rw (sym c.has.ensures ∙ c.if-not-has.true) c.add.ensures

pub returns-else-not-has : goal.returns-else-not-has
unfolding met
returns-else-not-has c = rw (sym c.has.ensures ∙ c.if-not-has.false)
