-- `closures::writing::turns_written` meets its contract, variant by variant.
use mathlib.Core.Path.{sym, ap, ◌∙◌}
use Rattle.closures.specs.Steps.{turns_written}
use Rattle.closures.proofs.Literals.{none}
use Rattle.closures.proofs.writing.turns_written.Goals as goal

pub returns-in-Masked : goal.returns-in-Masked
unfolding turns_written
returns-in-Masked c = sym (ap turns_written c.in-Masked.is ∙ none)

pub returns-in-Turns : goal.returns-in-Turns
unfolding turns_written
returns-in-Turns c = sym (ap turns_written c.in-Turns.is)
