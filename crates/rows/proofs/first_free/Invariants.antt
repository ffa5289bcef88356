-- The invariant: the first free word that is not 0 lies behind the runs passed.
use mathlib.Core.Path.{◌≡◌}
use Prim.Native.Nat.{◌+◌, ◌-◌}
use lib.ListN.{length, drop}
use Rattle.std.specs.Slice.Iter.{chunks_rest}
use Rattle.rules.specs.Lists.{first_at}
use Rattle.rows.proofs.Free.{set_word}
use Rattle.rows.proofs.first_free.Given as goal

abbrev pub invariant-loop-run : goal.invariant-loop-run
invariant-loop-run l =
    (goal.iterator-loop-run).can_next l.run-iterator
    × ((goal.iterator-loop-run).is_finite l.run-iterator
    × ((l.passed + length (chunks_rest l.run-iterator) ≡ length l.book - l.used) × (l.passed + first_at set_word (chunks_rest l.run-iterator) ≡ first_at set_word (drop l.used l.book))))
