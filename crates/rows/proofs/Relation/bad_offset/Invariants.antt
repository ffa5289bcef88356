-- The invariant: before is offset i, and no offset up to it shows a fault.
use mathlib.Core.Path.{◌≡◌}
use mathlib.Core.Bool.{false}
use Prim.Native.Nat.{ℕ, ◌+◌, ◌<◌}
use Rattle.rules.specs.Book.{offset}
use Rattle.rules.specs.Broken.{offset_bad}
use Rattle.rows.proofs.Relation.bad_offset.Given as goal

abbrev pub invariant-loop-i : goal.invariant-loop-i
invariant-loop-i l = (l.before ≡ offset l.self.book.now l.self.key l.i) × ((q : ℕ) → q < l.i + 1 → offset_bad l.self.book.now l.self.key q ≡ false)
