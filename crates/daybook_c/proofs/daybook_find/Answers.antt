-- With 11 the place is the row's own.
use mathlib.Core.Path.{◌≡◌, refl, sym, ap, ◌∙◌}
use Prim.Native.Nat.{ℕ}
use lib.ListN.{length}
use Rattle.rules.specs.Book.{row_start, row_of}
use Rattle.rules.specs.Calls.{row_number}
use Rattle.daybook_c.proofs.Given.{accepted-low, key-low}
use Rattle.daybook_c.proofs.Telling.{row-key, row-position}
use Rattle.daybook_c.proofs.daybook_find.Goals as goal

pub returns-in-Err-clause-key : goal.returns-in-Err-clause-key
returns-in-Err-clause-key c = c.refused.ensures.key ∙ row-key c.in-Err.refusal _ _ c.refused.ensures.number c.in-Err.ensures.number c.args.book.now c.args.d c.args.e c.args.i c.in-Err.ensures.place _

pub returns-in-Err-clause-position : goal.returns-in-Err-clause-position
returns-in-Err-clause-position c = c.refused.ensures.position ∙ row-position c.in-Err.refusal _ _ c.refused.ensures.number c.in-Err.ensures.number c.args.book.now c.args.d c.args.e c.args.i c.in-Err.ensures.place _
