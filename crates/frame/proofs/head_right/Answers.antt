-- The four refusals, one test after another.
use mathlib.Core.Path.{◌≡◌, refl, ◌∙◌}
use mathlib.Core.Bool.{false}
use Prim.Native.Nat.{◌%◌}
use native.Mathlib.Omega.{arith}
use borrow.Author.Tests.{le-leb, lt-leb}
use lib.Dec.{leb, eqb}
use lib.ListN.{get_or}
use Rattle.rules.specs.Book.{count}
use Rattle.frame.proofs.SoFar.{made, not_made, to_size, flat_head, whole_head}
use Rattle.frame.proofs.head_right.Goals.{Joined-count-le-MOST_VERTICES, then-count-le-MOST_VERTICES, else-count-le-MOST_VERTICES}
use Rattle.frame.proofs.head_right.Goals as goal

pub returns-then-top-eq0 : goal.returns-then-top-eq0
returns-then-top-eq0 c = flat_head c.args.book.now (omega (arith, c.dim-top.ensures, c.if-top-eq0.true))

sized : (c : Joined-count-le-MOST_VERTICES) → c.if-count-le-MOST_VERTICES.value ≡ to_size c.args.book.now
sized c = elim c.if-count-le-MOST_VERTICES.branch [
  | then-count-le-MOST_VERTICES w ↦
      rw (le-leb (count c.args.book.now 0) 8192 (omega (arith, w.if-count-le-MOST_VERTICES.true, c.count.ensures)))
      (w.value-is ∙ rw (w.count-then-count-le-MOST_VERTICES.ensures, c.dim-top.ensures))
  | else-count-le-MOST_VERTICES w ↦
      let f : leb (count c.args.book.now 0) 8192 ≡ false = lt-leb _ 8192 (omega (arith, w.if-count-le-MOST_VERTICES.false, c.count.ensures)) in
      rw f (w.value-is ∙ rw c.count.ensures f)
]

pub returns-then-count-le-MOST_CELLS : goal.returns-then-count-le-MOST_CELLS
returns-then-count-le-MOST_CELLS c =
    let b = c.args.book.now in
    made (sized (goal.at.returns-then-count-le-MOST_CELLS c).Joined-count-le-MOST_VERTICES) c.if-count-le-MOST_CELLS.true (rw c.word.ensures) ∙ whole_head b (omega (arith, c.dim-top.ensures, c.if-top-eq0.false))

pub returns-else-count-le-MOST_CELLS : goal.returns-else-count-le-MOST_CELLS
returns-else-count-le-MOST_CELLS c =
    let b = c.args.book.now in
    not_made (eqb (get_or b 0 0 % 8) 0) (sized (goal.at.returns-else-count-le-MOST_CELLS c).Joined-count-le-MOST_VERTICES) c.if-count-le-MOST_CELLS.false refl ∙ whole_head b (omega (arith, c.dim-top.ensures, c.if-top-eq0.false))
