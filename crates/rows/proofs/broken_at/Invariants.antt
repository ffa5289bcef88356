-- The invariant: at is where the relation of key k begins, and the relations passed that are held break no rule.
use mathlib.Core.Path.{◌≡◌}
use Rattle.rules.specs.Book.{place}
use Rattle.rules.proofs.BrokenSteps.{Fine}
use Rattle.rows.proofs.broken_at.Given as goal

abbrev pub invariant-loop-k : goal.invariant-loop-k
invariant-loop-k l = (l.at.0 ≡ place l.book l.k) × Fine l.book l.k
