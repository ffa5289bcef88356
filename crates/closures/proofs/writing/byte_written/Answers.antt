-- `closures::writing::byte_written` meets its contract, variant by variant.
use mathlib.Core.Path.{sym, ap}
use Rattle.closures.specs.Steps.{byte_written}
use Rattle.closures.proofs.writing.byte_written.Goals as goal

pub returns-in-Masked : goal.returns-in-Masked
unfolding byte_written
returns-in-Masked c = sym (ap byte_written c.in-Masked.is)

pub returns-in-Turns : goal.returns-in-Turns
unfolding byte_written
returns-in-Turns c = sym (ap byte_written c.in-Turns.is)
