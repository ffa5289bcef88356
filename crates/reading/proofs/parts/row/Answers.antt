-- Where the number is 0 the row lies within the book; else the part is empty, at the book's start.
use mathlib.Core.Path.{◌≡◌, refl, sym, ap, ◌∙◌}
use Prim.Native.Nat.{ℕ, min, ◌+◌, ◌*◌}
use native.Mathlib.Omega.{arith}
use lib.ListN.{length}
use borrow.Author.Tests.{eq-eqb, ne_eqb}
use Rattle.rules.specs.Book.{row_of, row_start}
use Rattle.rules.specs.Calls.{row_number, row_part}
use Rattle.rules.proofs.AnyWords.{dim-most}
use Rattle.rules.proofs.Accepted.{rowed}
use Rattle.kinds.proofs.Determined.{erred, given-none}
use Rattle.reading.proofs.RowCases.{row_within}
use Rattle.reading.proofs.parts.row.Goals.{Else-is_err}
use Rattle.reading.proofs.parts.row.Goals as goal

accepted : (c : Else-is_err) → row_number c.args.book.now c.args.d c.args.e c.args.i ≡ 0
accepted c = sym c.row_answer.ensures.number ∙ given-none c.row_answer.result (sym c.is_err.ensures.value ∙ c.if-is_err.false)

pub returns-then-is_err : goal.returns-then-is_err
unfolding row_part
returns-then-is_err c =
    let a = c.args in
    let n : row_number a.book.now a.d a.e a.i ≡ 0 → ⊥ = λ z. erred c.row_answer.result (sym c.is_err.ensures.value ∙ c.if-is_err.true) (c.row_answer.ensures.number ∙ z) in
    record {
      words = rw (ne_eqb (row_number a.book.now a.d a.e a.i) 0 n);
      block = refl;
      start = λ z. absurd (n z);
    }

pub key-requires : goal.key-requires
key-requires c =
    let a = c.args in
    let m = dim-most a.book.now (λ i. (c.type_inv.book i).fits) in
    let r = rowed a.book.now a.d a.e a.i (accepted (goal.at.key-requires c).Else-is_err) in
    (omega (arith, m, r.first), omega (arith, m, r.second))

pub returns : goal.returns
unfolding row_part
returns c =
    let a = c.args in
    let b = a.book.now in
    let z = accepted (goal.at.returns c).Else-is_err in
    let k = c.key.ensures in
    let l = row_within b a.d a.e a.i z in
    record {
      words = rw (eq-eqb (row_number b a.d a.e a.i) 0 z) (c.row.ensures.words ∙ ap (λ (k : ℕ). row_of b k a.i) k);
      block = c.row.ensures.block;
      start =
          λ _.
          c.row.ensures.start ∙ ap (λ (k : ℕ). a.book.ref_ptr.1 + 4 * min (row_start b k a.i) (length b)) k ∙ omega arith;
    }
