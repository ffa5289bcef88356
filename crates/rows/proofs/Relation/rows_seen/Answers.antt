-- What is not passed shows a bad offset, or the first bad index of its row.
use mathlib.Core.Path.{◌≡◌, sym, ap, ap₂, subst, ◌∙◌}
use mathlib.Core.Bool.{true, false, ◌&&◌, false≢true}
use mathlib.Core.Logic.{inl, inr}
use mathlib.Core.List.{List}
use Prim.Native.Nat.{ℕ, ◌+◌, ◌/◌, ◌%◌, ◌≤◌, ◌<◌}
use native.Mathlib.Omega.{arith}
use lib.ListN.{length}
use lib.Dec.{ltb}
use borrow.Author.Tests.{ne_eqb}
use Rattle.rules.specs.Lists.{up_to, all_of, ascends, first_at}
use Rattle.rules.specs.Book.{count, offset, total, row_of}
use Rattle.rules.specs.Broken.{word_bad, offset_bad}
use Rattle.rules.proofs.Searched.{least-before, least-passes}
use Rattle.rows.specs.Seen.{Offsets, at_offset, at-index, nowhere}
use Rattle.rows.proofs.Walked.{offset-first, row-short, some-bad}
use Rattle.rows.proofs.Relation.rows_seen.Goals.{After-bad_index-bad}
use Rattle.rows.proofs.Relation.rows_seen.Goals as goal

pub returns-then-offset-ne0 : goal.returns-then-offset-ne0
returns-then-offset-ne0 c =
    let r = c.args.self in
    at_offset (omega arith) (offset-first r.book.now r.key ∙ rw (ne_eqb (offset r.book.now r.key 0) 0 (λ e. c.if-offset-ne0.true (c.offset.ensures ∙ e)))) (λ q l. absurd (omega arith))

pub returns-then-i-n : goal.returns-then-i-n
unfolding total
returns-then-i-n c =
    let r = c.args.self in
    let n = c.rows-n.ensures.value in
    let p = c.rows_passed-i.ensures in
    let z : c.rows_passed-i.result ≡ count r.book.now (r.key / 4) = c.if-i-n.true ∙ n in
    nowhere (λ q x. p.offsets q (omega (arith, z))) (λ j x. p.rows j (omega (arith, z))) (ap₂ (λ (a b : ℕ). a + 1 + b) n (c.offset-first.ensures ∙ ap (offset r.book.now r.key) z))

pub returns-then-p-n : goal.returns-then-p-n
returns-then-p-n c =
    let r = c.args.self in
    let n = count r.book.now (r.key / 4) in
    let e = c.bad_offset-p.ensures in
    let l : c.bad_offset-p.result ≤ n = omega (arith, c.if-p-n.true, c.rows-n.ensures.value) in
    let m : first_at (offset_bad r.book.now r.key) (up_to (n + 1)) < n + 1 = omega (arith, e) in
    at_offset l (rw e (least-passes (offset_bad r.book.now r.key) (n + 1) m)) (λ q x. least-before (offset_bad r.book.now r.key) (n + 1) q (omega (arith, e)))

module _ (c : After-bad_index-bad) where
  abbrev ws : List ℕ
  ws = c.args.self.book.now

  abbrev k : ℕ
  k = c.args.self.key

  abbrev i : ℕ
  i = c.rows_passed-i.result

  abbrev row : List ℕ
  row = row_of ws k i

  -- no offset is bad
  fine : count ws (k / 4) < c.bad_offset-p.result → Offsets ws k
  fine late q x = least-before (offset_bad ws k) (count ws (k / 4) + 1) q (omega (arith, c.bad_offset-p.ensures, late))

  -- row i is one of the relation's, and does not ascend below N_e
  below : i < count ws (k / 4)
  below = omega (arith, c.if-i-n.false, c.rows_passed-i.ensures.most, c.rows-n.ensures.value)

  wrong : count ws (k / 4) < c.bad_offset-p.result → (ascends row && all_of (λ (j : ℕ). ltb j (count ws (k % 4))) row) ≡ false
  wrong late = elim (c.rows_passed-i.ensures.stopped below) [ inl b ↦ absurd (false≢true (sym (fine late (i + 1) (omega (arith, below))) ∙ b)) | inr w ↦ w ]

  -- the index that was found
  found : c.bad_index-bad.result ≡ first_at (word_bad (count ws (k % 4)) row) (up_to (length row))
  found = c.bad_index-bad.ensures ∙ ap₂ (λ (r : List ℕ) (b : ℕ). first_at (word_bad b r) (up_to (length r))) c.row.ensures.words c.count.ensures

  within : count ws (k / 4) < c.bad_offset-p.result → c.bad_index-bad.result < length row
  within late = subst (λ (n : ℕ). n < length row) (sym found) (some-bad row (count ws (k % 4)) (wrong late))

pub overflow_add-result-4 : goal.overflow_add-result-4
overflow_add-result-4 c = omega (arith, within c (omega (arith, c.rows-n.ensures.value)), row-short (ws c) (k c) (i c))

pub returns : goal.returns
returns c =
    let e = (goal.at.returns c).After-bad_index-bad in
    let late : count (ws e) (k e / 4) < c.bad_offset-p.result = omega (arith, c.rows-n.ensures.value) in
    let m = within e late in
    at-index (i e) c.bad_index-bad.result
    (record {
      fine = fine e late;
      row = below e;
      within = m;
      bad = subst (λ (n : ℕ). word_bad (count (ws e) (k e % 4)) (row e) n ≡ true) (sym (found e)) (least-passes (word_bad (count (ws e) (k e % 4)) (row e)) (length (row e)) (omega (arith, found e, m)));
      rows = c.rows_passed-i.ensures.rows;
      before = λ q x. least-before (word_bad (count (ws e) (k e % 4)) (row e)) (length (row e)) q (omega (arith, found e, x));
    })
    (ap₂ (λ (a b : ℕ). a + 1 + b + c.bad_index-bad.result) c.rows-n.ensures.value c.offset-first.ensures)
