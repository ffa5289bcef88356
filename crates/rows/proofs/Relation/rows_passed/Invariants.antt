-- The invariant: first is offset i, no offset up to it is bad, and no row passed has a bad index.
use mathlib.Core.Path.{◌≡◌}
use mathlib.Core.Bool.{false}
use Prim.Native.Nat.{ℕ, ◌+◌, ◌<◌}
use Rattle.rules.specs.Book.{offset}
use Rattle.rules.specs.Broken.{offset_bad}
use Rattle.rows.specs.Seen.{Passed}
use Rattle.rows.proofs.Relation.rows_passed.Given as goal

abbrev pub invariant-loop-i : goal.invariant-loop-i
invariant-loop-i l =
    (l.first ≡ offset l.self.book.now l.self.key l.i)
    × (((q : ℕ) → q < l.i + 1 → offset_bad l.self.book.now l.self.key q ≡ false) × Passed l.self.book.now l.self.key l.i)
