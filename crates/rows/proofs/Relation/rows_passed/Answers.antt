-- The invariant: first is offset i, no offset up to it is bad, and no row passed has a bad index.
use mathlib.Core.Path.{◌≡◌, sym, ◌∙◌}
use mathlib.Core.Bool.{◌&&◌}
use mathlib.Core.Logic.{inl, inr}
use Prim.Native.Nat.{ℕ, ◌+◌, ◌%◌}
use native.Mathlib.Numerals.{add-one}
use native.Mathlib.Omega.{arith}
use lib.Dec.{ltb}
use borrow.Author.Count.{below_more}
use borrow.Author.Tests.{eq-eqb}
use Rattle.rules.specs.Lists.{all_of, ascends}
use Rattle.rules.specs.Book.{count, row_of}
use Rattle.rules.specs.Broken.{offset_bad}
use Rattle.rules.proofs.Tests.{left, right}
use Rattle.rules.proofs.BrokenFound.{words-fine}
use Rattle.book.proofs.Flags.{off, on}
use Rattle.rows.proofs.Walked.{offset-first, step-read, step-up}
use Rattle.rows.proofs.Relation.rows_passed.Goals.{After-step_bad, After-row_ascends}
use Rattle.rows.proofs.Relation.rows_passed.Goals as goal

pub loop-i-init : goal.loop-i-init
loop-i-init c =
    let r = c.args.self in
    (sym c.requires, (λ q l. let e : q ≡ 0 = omega arith in rw e (offset-first r.book.now r.key ∙ rw (eq-eqb _ 0 c.requires)), λ j l. absurd (omega arith)))

-- offset i + 1 shows a fault exactly where the step to it is bad
stepped : (c : After-step_bad) → offset_bad c.args.self.book.now c.args.self.key (c.loop-i.i + 1) ≡ c.step_bad.result
stepped c = step-read c.args.self.book.now c.args.self.key c.loop-i.i _ _ _ _ c.loop-i.invariant.0 (rw add-one at c.offset-last.ensures) c.row_size-size.ensures c.step_bad.ensures

pub returns-then-step_bad : goal.returns-then-step_bad
returns-then-step_bad c =
    let i = c.loop-i.invariant in
    record { most = omega (arith, c.rows-n.ensures.value); offsets = i.1.0; rows = i.1.1; stopped = λ m. inl (stepped (goal.at.returns-then-step_bad c).After-step_bad ∙ c.if-step_bad.true) }

pub overflow_sub-last : goal.overflow_sub-last
overflow_sub-last c = omega (arith, step-up c.loop-i.first c.offset-last.result _ (sym c.step_bad.ensures ∙ c.if-step_bad.false))

module _ (c : After-row_ascends) where
  row_is : c.part-row.result.now ≡ row_of c.args.self.book.now c.args.self.key c.loop-i.i
  unfolding row_of
  row_is = c.part-row.ensures.words ∙ rw (c.offset-last.ensures, c.loop-i.invariant.0, c.rows-n.ensures.value, c.args.self.placed)

  tested : c.row_ascends.result ≡ (ascends (row_of c.args.self.book.now c.args.self.key c.loop-i.i) && all_of (λ (j : ℕ). ltb j (count c.args.self.book.now (c.args.self.key % 4))) (row_of c.args.self.book.now c.args.self.key c.loop-i.i))
  tested = c.row_ascends.ensures ∙ rw (row_is, c.count-bound.ensures)

pub returns-then-not-row_ascends : goal.returns-then-not-row_ascends
returns-then-not-row_ascends c =
    let i = c.loop-i.invariant in
    record {
      most = omega (arith, c.rows-n.ensures.value);
      offsets = i.1.0;
      rows = i.1.1;
      stopped = λ m. inr (off (tested (goal.at.returns-then-not-row_ascends c).After-row_ascends) c.if-not-row_ascends.true);
    }

pub loop-i-preserved : goal.loop-i-preserved
loop-i-preserved c =
    let r = c.args.self in
    let row = row_of r.book.now r.key c.loop-i.i in
    let at = goal.at.loop-i-preserved c in
    let t = on (tested at.After-row_ascends) c.if-not-row_ascends.false in (
      c.offset-last.ensures,
      (
        below_more _ _ c.loop-i.invariant.1.0 (stepped at.After-step_bad ∙ c.if-step_bad.false),
        below_more _ _ c.loop-i.invariant.1.1 (words-fine (count r.book.now (r.key % 4)) row (left _ _ t) (right (ascends row) _ t)),
      ),
    )
