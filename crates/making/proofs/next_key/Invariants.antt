-- What is left of the six steps leads to the same key.
use Rattle.std.proofs.Common.{◌≡◌, ◌-◌, ◌<◌}
use Rattle.rules.specs.Book.{named}
use Rattle.rules.specs.Steps.{next_key}
use Rattle.making.proofs.next_key.Given as goal

abbrev pub invariant-loop-step : goal.invariant-loop-step
invariant-loop-step l = (l.at < 16) × (next_key (6 - l._step) l.top (named l.mask) l.at ≡ next_key 6 l.top (named l.mask) l.k)
