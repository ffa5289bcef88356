-- The invariant: at is where the relation of key j begins.
use mathlib.Core.Path.{◌≡◌}
use Rattle.rules.specs.Book.{place}
use Rattle.book.proofs.place_of.Given as goal

abbrev pub invariant-loop-j : goal.invariant-loop-j
invariant-loop-j l = l.at.0 ≡ place l.book l.j
