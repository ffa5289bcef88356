-- The row's words are a part of the book, from offset i on.
use mathlib.Core.Path.{ap, ◌∙◌}
use Prim.Native.Nat.{ℕ, ◌+◌, ◌*◌, ◌^◌, ◌<◌, min}
use native.Mathlib.Omega.{arith}
use lib.ListN.{length, take, drop}
use Rattle.rules.proofs.AnyWords.{place-low, row-begins, row_words}
use Rattle.rules.specs.Book.{row_start}
use Rattle.rows.proofs.row.Goals as goal

pub overflow_add-at : goal.overflow_add-at
overflow_add-at c =
    let low : c.place_of-at.result.0 < 2 ^ 40 =
    let a = c.args in
    omega (arith, c.place_of-at.ensures, place-low a.book.now (λ i. (c.type_inv.book i).fits) a.k) in
    omega (arith, low, c.ranges)

pub overflow_add-at-2 : goal.overflow_add-at-2
overflow_add-at-2 c =
    let low : c.place_of-at.result.0 < 2 ^ 40 =
    let a = c.args in
    omega (arith, c.place_of-at.ensures, place-low a.book.now (λ i. (c.type_inv.book i).fits) a.k) in
    omega (arith, low, c.ranges)

pub overflow_add-at-3 : goal.overflow_add-at-3
overflow_add-at-3 c =
    let low : c.place_of-at.result.0 < 2 ^ 40 =
    let a = c.args in
    omega (arith, c.place_of-at.ensures, place-low a.book.now (λ i. (c.type_inv.book i).fits) a.k) in
    omega (arith, low, c.count.type_inv)

pub overflow_add-at-4 : goal.overflow_add-at-4
overflow_add-at-4 c =
    let low : c.place_of-at.result.0 < 2 ^ 40 =
    let a = c.args in
    omega (arith, c.place_of-at.ensures, place-low a.book.now (λ i. (c.type_inv.book i).fits) a.k) in
    omega (arith, low, c.count.type_inv)

pub overflow_add-at-5 : goal.overflow_add-at-5
overflow_add-at-5 c =
    let low : c.place_of-at.result.0 < 2 ^ 40 =
    let a = c.args in
    omega (arith, c.place_of-at.ensures, place-low a.book.now (λ i. (c.type_inv.book i).fits) a.k) in
    omega (arith, low, c.count.type_inv, c.word-first.type_inv)

pub returns : goal.returns
unfolding row_start
returns c =
    let a = c.args in
    let p = c.place_of-at in
    let f = c.word-first in
    let l = c.word-last in
    let n = c.count in
    record {
      words =
          c.part.ensures.words ∙ ap (λ (m : ℕ). take m (drop (p.result.0 + n.result + 1 + f.result) a.book.now)) c.saturating_sub.ensures
          ∙ row_words a.book.now a.k p.result.0 p.ensures a.i n.result f.result n.ensures f.ensures l.result l.ensures;
      block = c.part.ensures.block;
      start =
          c.part.ensures.start
          ∙ ap (λ (x : ℕ). a.book.ref_ptr.1 + 4 * min x (length a.book.now))
          (row-begins a.book.now a.k p.result.0 p.ensures a.i n.result f.result n.ensures f.ensures);
    }
