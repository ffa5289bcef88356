-- The relation's place, its offsets, and offset i.
use Prim.Native.Nat.{◌/◌, ◌^◌, ◌<◌}
use native.Mathlib.Omega.{arith}
use Rattle.rules.specs.Book.{row_start, offset}
use Rattle.rules.proofs.AnyWords.{place-low, count-below}
use Rattle.daybook_c.proofs.place_of_row.Goals as goal

-- src/lib.rt:49:40
pub overflow_add-at : goal.overflow_add-at
overflow_add-at c =
    let low : c.place_of-at.result.0 < 2 ^ 40 =
    omega (arith, c.place_of-at.ensures, place-low c.args.book.now (λ i. (c.type_inv.book i).fits) c.args.k) in
    omega (arith, low, c.ranges)

-- src/lib.rt:50:11
pub overflow_add-result : goal.overflow_add-result
overflow_add-result c =
    let low : c.place_of-at.result.0 < 2 ^ 40 =
    omega (arith, c.place_of-at.ensures, place-low c.args.book.now (λ i. (c.type_inv.book i).fits) c.args.k) in
    omega (arith, low, c.count.ensures, count-below c.args.book.now (λ i. (c.type_inv.book i).fits) (c.args.k / 4))

-- src/lib.rt:50:11
pub overflow_add-result-2 : goal.overflow_add-result-2
overflow_add-result-2 c =
    let low : c.place_of-at.result.0 < 2 ^ 40 =
    omega (arith, c.place_of-at.ensures, place-low c.args.book.now (λ i. (c.type_inv.book i).fits) c.args.k) in
    omega (arith, low, c.count.ensures, count-below c.args.book.now (λ i. (c.type_inv.book i).fits) (c.args.k / 4))

-- src/lib.rt:50:11
pub overflow_add-result-3 : goal.overflow_add-result-3
overflow_add-result-3 c =
    let low : c.place_of-at.result.0 < 2 ^ 40 =
    omega (arith, c.place_of-at.ensures, place-low c.args.book.now (λ i. (c.type_inv.book i).fits) c.args.k) in
    omega (arith, c.word-first.type_inv, low, c.count.ensures, count-below c.args.book.now (λ i. (c.type_inv.book i).fits) (c.args.k / 4))

-- src/lib.rt:44:1
pub returns : goal.returns
unfolding row_start offset
returns c = let a = c.args in
    let p = c.place_of-at.ensures in
    rw (c.count.ensures, c.word-first.ensures, p)
