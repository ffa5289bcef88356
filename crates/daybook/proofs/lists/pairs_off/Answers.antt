-- Half a pair, or over 16 pairs; then the places are asked.
use mathlib.Core.Path.{sym, ◌∙◌}
use mathlib.Core.Bool.{false≢true}
use Prim.Native.Nat.{◌%◌}
use borrow.Author.Tests.{eq-eqb, ne_eqb}
use Rattle.rules.specs.Calls.{pairs_off}
use Rattle.daybook.proofs.lists.pairs_off.Goals.{then-pairs-eq1, else-pairs-eq1}
use Rattle.daybook.proofs.lists.pairs_off.Goals as goal

pub returns-then-pairs-gt16 : goal.returns-then-pairs-gt16
unfolding pairs_off
returns-then-pairs-gt16 c =
    elim c.if-pairs-eq1.branch [
      | then-pairs-eq1 w ↦ rw (c.if-pairs-gt16.true, eq-eqb (c.args.pairs % 2) 1 w.if-pairs-eq1.true)
      | else-pairs-eq1 w ↦ rw (c.if-pairs-gt16.true, ne_eqb (c.args.pairs % 2) 1 w.if-pairs-eq1.false, sym w.value-is ∙ c.if-pairs-gt16.true)
    ]

pub returns-else-pairs-gt16 : goal.returns-else-pairs-gt16
unfolding pairs_off
returns-else-pairs-gt16 c =
    elim c.if-pairs-eq1.branch [
      | then-pairs-eq1 w ↦ absurd (false≢true (sym c.if-pairs-gt16.false ∙ w.value-is ∙ eq-eqb (c.args.pairs % 2) 1 w.if-pairs-eq1.true))
      | else-pairs-eq1 w ↦ rw (ne_eqb (c.args.pairs % 2) 1 w.if-pairs-eq1.false, sym w.value-is ∙ c.if-pairs-gt16.false)
    ]
