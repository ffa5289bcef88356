-- The rows are right exactly where no place is found.
use mathlib.Core.Path.{◌≡◌, sym}
use mathlib.Core.Bool.{Bool, true, false, not, true≢false}
use mathlib.Core.List.{List}
use Prim.Native.Nat.{ℕ}
use Rattle.std.specs.Prelude.{Option, Some, None, is_some}
use Rattle.rules.specs.Book.{frame_right, rows_right}
use Rattle.rules.specs.Broken.{broken_at}
use Rattle.rules.proofs.Told.{none_right, some-wrong}
use Rattle.kinds.specs.declared.refusals.Broken.{Broken}
use Rattle.rows.specs.Answers.{rows_place}
use Rattle.rows.proofs.rows_right.Goals as goal

decides : (ws : List ℕ) (f : frame_right ws ≡ true) (o : Option Broken) (b : Bool) → is_some o ≡ not b → rows_place o ≡ broken_at ws → b ≡ rows_right ws
decides ws f None true n e = sym (none_right ws f (sym e))
decides ws f (Some p) false n e = sym (some-wrong ws f _ (sym e))
decides ws f None false n e = absurd (true≢false (sym n))
decides ws f (Some p) true n e = absurd (true≢false n)

pub returns : goal.returns
returns c = decides c.args.book.now c.requires c.broken_at.result c.is_none.result c.is_none.ensures c.broken_at.ensures
