-- A refusal of Row's is Find's; what Row accepts is searched, in the part of the book that Row would hand back.
use mathlib.Core.Path.{◌≡◌, refl, sym, ap, ◌∙◌}
use Prim.Native.Nat.{ℕ}
use native.Mathlib.Omega.{arith}
use borrow.Author.Tests.{ne_eqb}
use Rattle.rules.specs.Book.{key, row_of}
use Rattle.rules.specs.Broken.{row_broken_at, told}
use Rattle.rules.specs.Calls.{found_in, read_in, row_number, find_number}
use Rattle.rules.proofs.AnyWords.{dim-most}
use Rattle.rules.proofs.Accepted.{rowed, find-accepted, find-refused}
use Rattle.rules.proofs.Told.{untold-as}
use Rattle.kinds.specs.Refusals.{refusal_number, answer_number, answer_place, given}
use Rattle.kinds.proofs.Determined.{handed-on, positive, refused-accepted}
use Rattle.reading.proofs.RowCases.{find-0, find-19, find-as-row}
use Rattle.reading.proofs.finds.find.Goals.{After-from_residual, After-count}
use Rattle.reading.proofs.finds.find.Goals as goal

accepted : (c : After-count) → row_number c.args.book.now c.args.d c.args.e c.args.i ≡ 0
accepted c = sym c.in_ok-row_answer.ensures.number

pub returns-in_err-row_answer : goal.returns-in_err-row_answer
returns-in_err-row_answer c =
    let a = c.args in
    let r = c.in_err-row_answer.field-0.0 in
    let h = handed-on c.from_residual.result r c.from_residual.ensures.1 in
    let n = c.in_err-row_answer.ensures.number in
    let m = find-as-row a.book.now a.d a.e a.i (refusal_number r) a.j (ne_eqb (refusal_number r) 0 (refused-accepted r)) n in
    let v = find-refused a.book.now a.d a.e a.i a.j (omega (arith, m, positive r)) in
    record {
      number = ap answer_number h ∙ m;
      yes = ap (given _ _) h ∙ sym v.0;
      read = ap (given _ _) h ∙ sym v.1;
      place = ap answer_place h ∙ c.in_err-row_answer.ensures.place ∙ ap (λ (k : ℕ). told k (row_broken_at a.book.now a.d a.e a.i)) (sym n ∙ m);
    }

pub returns-then-j-count : goal.returns-then-j-count
returns-then-j-count c =
    let a = c.args in
    let e = find-19 a.book.now a.d a.e a.i a.j (accepted (goal.at.returns-then-j-count c).After-count) (omega (arith, c.if-j-count.true, c.count.ensures)) in
    let v = find-refused a.book.now a.d a.e a.i a.j (omega arith) in
    record { number = e; yes = sym v.0; read = sym v.1; place = untold-as 19 _ _ refl e }

pub key-requires : goal.key-requires
key-requires c =
    let a = c.args in
    let m = dim-most a.book.now (λ i. (c.type_inv.book i).fits) in
    let r = rowed a.book.now a.d a.e a.i (accepted (goal.at.key-requires c).After-count) in
    (omega (arith, m, r.first), omega (arith, m, r.second))

pub returns : goal.returns
returns c =
    let a = c.args in
    let z : find_number a.book.now a.d a.e a.i a.j ≡ 0 = find-0 a.book.now a.d a.e a.i a.j (accepted (goal.at.returns c).After-count) (omega (arith, c.if-j-count.false, c.count.ensures)) in
    let v = find-accepted a.book.now a.d a.e a.i a.j z in
    let w : c.row.result.now ≡ row_of a.book.now (key a.d a.e) a.i = c.row.ensures.words ∙ ap (λ (k : ℕ). row_of a.book.now k a.i) c.key.ensures in
    record {
      number = sym z;
      yes = c.search.ensures.yes ∙ ap (found_in a.j) w ∙ sym v.0;
      read = c.search.ensures.read ∙ ap (read_in a.j) w ∙ sym v.1;
      place = untold-as 0 _ _ refl (sym z);
    }
