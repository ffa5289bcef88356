-- With 11 the place is the row's own.
use mathlib.Core.Path.{◌≡◌, refl, sym, ap, ◌∙◌}
use Prim.Native.Nat.{ℕ}
use lib.ListN.{length}
use Rattle.rules.specs.Book.{row_start, row_of}
use Rattle.rules.specs.Calls.{row_number}
use Rattle.daybook_c.proofs.Given.{accepted-low, key-low}
use Rattle.daybook_c.proofs.Telling.{row-key, row-position}
use Rattle.daybook_c.proofs.daybook_row.Goals.{In-Ok}
use Rattle.daybook_c.proofs.daybook_row.Goals as goal

pub returns-in-Err-clause-key : goal.returns-in-Err-clause-key
returns-in-Err-clause-key c = c.refused.ensures.key ∙ row-key c.in-Err.refusal _ _ c.refused.ensures.number c.in-Err.ensures.number c.args.book.now c.args.d c.args.e c.args.i c.in-Err.ensures.place _

pub returns-in-Err-clause-position : goal.returns-in-Err-clause-position
returns-in-Err-clause-position c = c.refused.ensures.position ∙ row-position c.in-Err.refusal _ _ c.refused.ensures.number c.in-Err.ensures.number c.args.book.now c.args.d c.args.e c.args.i c.in-Err.ensures.place _

accepted : (c : In-Ok) → row_number c.args.book.now c.args.d c.args.e c.args.i ≡ 0
accepted c = sym c.in-Ok.ensures.number

pub key-k-requires : goal.key-k-requires
key-k-requires c = accepted-low _ _ _ _ (accepted (goal.at.key-k-requires c).In-Ok)

pub place_of_row-requires : goal.place_of_row-requires
place_of_row-requires c =
    let a = accepted-low _ _ _ _ (accepted (goal.at.place_of_row-requires c).In-Ok) in
    rw c.key-k.ensures (key-low _ _ a.0 a.1)

pub returns-in-Ok : goal.returns-in-Ok
returns-in-Ok c =
    let e = c.key-k.ensures in
    record {
      number = c.in-Ok.ensures.number;
      key = refl;
      position = refl;
      start = c.place_of_row.ensures ∙ ap (λ (j : ℕ). row_start c.args.book.now j c.args.i) e;
      count = ap length (c.row-row.ensures.words ∙ ap (λ (j : ℕ). row_of c.args.book.now j c.args.i) e);
    }
