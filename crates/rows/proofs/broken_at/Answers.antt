-- The invariant: at is where the relation of key k begins, and the relations passed that are held break no rule.
use mathlib.Core.Path.{◌≡◌, refl, sym, ◌∙◌}
use mathlib.Core.Bool.{true, not, true≢false}
use Prim.Native.Nat.{◌+◌, ◌-◌, ◌/◌, ◌<◌}
use native.Mathlib.Omega.{arith}
use lib.ListN.{length, get_or, drop}
use lib.Dec.{eqb}
use borrow.Author.Tests.{lt-ltb, le-ltb}
use Rattle.rules.specs.Lists.{first_at}
use Rattle.rules.specs.Book.{count, held, place, total}
use Rattle.rules.specs.Broken.{relation_bad}
use Rattle.rules.proofs.AnyWords.{place-low}
use Rattle.rules.proofs.FrameRule.{framed}
use Rattle.rules.proofs.BrokenSteps.{Fine, fine-held, key-found, place_found, broken-found, key-none}
use Rattle.rows.proofs.Cells.{relation-ends}
use Rattle.rows.proofs.Free.{free-decides, free-place, placed_at, placed-nowhere}
use Rattle.rows.proofs.broken_at.Goals.{then-held+else-at-seen, else-held}
use Rattle.rows.proofs.broken_at.Goals as goal

pub loop-k-init : goal.loop-k-init
unfolding place
loop-k-init c = (refl, λ j l. absurd (omega arith))

pub invariant_of-seen : goal.invariant_of-seen
invariant_of-seen c =
    let ws = c.args.book.now in
    record { low = c.loop-k-test.true; near = omega (arith, c.loop-k.invariant.0, place-low ws (λ i. (c.type_inv.book i).fits) c.loop-k.k); placed = c.loop-k.invariant.0 }

pub overflow_add-at : goal.overflow_add-at
overflow_add-at c =
    let ws = c.args.book.now in
    omega (arith, c.loop-k.invariant.0, c.seen-seen.ensures.most, relation-ends ws c.loop-k.k (sym c.held.ensures ∙ c.if-held.true), place-low ws (λ i. (c.type_inv.book i).fits) (c.loop-k.k + 1))

pub returns-then-at-seen : goal.returns-then-at-seen
returns-then-at-seen c =
    let holds : let l = c in held l.args.book.now l.loop-k.k ≡ true =
    sym c.held.ensures ∙ c.if-held.true in
    let t = c in
    let l = t in
    let ws = l.args.book.now in
    let k = l.loop-k.k in
    let s = c.seen-seen.ensures in
    let e = relation-ends ws k (holds) in
    let m : c.seen-seen.result < count ws (k / 4) + 1 + total ws k = omega (arith, c.if-at-seen.true, t.behind-next.ensures, l.loop-k.invariant.0) in
    let b : relation_bad ws k ≡ true = sym s.broken ∙ lt-ltb _ _ m in
    let n = t.loop-k-test.true in
    let f = l.loop-k.invariant.1 in
    placed_at ws k _ (broken-found ws k n f (holds) b) (key-found ws k n f (holds) b) (place_found ws k n f (holds) b ∙ sym (s.lowest m))

pub loop-k-preserved : goal.loop-k-preserved
loop-k-preserved c =
    let ws = c.args.book.now in
    let k = c.loop-k.k in (
      c.behind-next.ensures,
      fine-held ws k c.loop-k.invariant.1
          (λ x. elim c.if-held.branch [
            | then-held+else-at-seen w ↦
                let s = w.seen-seen.ensures in
                sym s.broken ∙ le-ltb w.seen-seen.result (count ws (k / 4) + 1 + total ws k) (omega (arith, w.if-at-seen.false, c.behind-next.ensures, c.loop-k.invariant.0, relation-ends ws k x))
            | else-held w ↦ absurd (true≢false (sym x ∙ sym c.held.ensures ∙ w.if-held.false))
          ]),
    )

pub first_free-free-requires : goal.first_free-free-requires
first_free-free-requires c = (framed _ c.requires).fits

pub overflow_sub-book : goal.overflow_sub-book
overflow_sub-book c = omega (arith, (framed _ c.requires).fits, c.word.ensures)

pub returns-then-free-book : goal.returns-then-free-book
returns-then-free-book c =
    let fine : Fine c.args.book.now 16 =
    λ j l. c.loop-k.invariant.1 j (omega (arith, c.loop-k-test.false)) in
    let w = c in
    let l = w in
    let ws = l.args.book.now in
    let f = fine in
    placed_at ws 16 _ (sym (free-decides ws f) ∙ lt-ltb (first_at (λ w. not (eqb 0 w)) (drop (get_or ws 4 0) ws)) (length ws - get_or ws 4 0) (omega (arith, c.if-free-book.true, w.first_free-free.ensures, w.word.ensures))) (key-none ws f) (sym (w.first_free-free.ensures ∙ free-place ws f))

pub returns : goal.returns
returns c =
    let fine : Fine c.args.book.now 16 =
    λ j l. c.loop-k.invariant.1 j (omega (arith, c.loop-k-test.false)) in
    let w = c in
    let l = w in
    let ws = l.args.book.now in
    let f = fine in
    placed-nowhere ws (sym (free-decides ws f) ∙ le-ltb (first_at (λ w. not (eqb 0 w)) (drop (get_or ws 4 0) ws)) (length ws - get_or ws 4 0) (omega (arith, c.if-free-book.false, w.first_free-free.ensures, w.word.ensures)))
