-- With 11 the place is the book's.
use mathlib.Core.Path.{◌≡◌, refl, sym, ap, ◌∙◌}
use Rattle.daybook_c.proofs.Telling.{book-key, book-position}
use Rattle.daybook_c.proofs.daybook_closures.Goals as goal

pub returns-in-Err-clause-key : goal.returns-in-Err-clause-key
returns-in-Err-clause-key c = c.refused.ensures.key ∙ book-key c.in-Err.refusal _ _ c.refused.ensures.number c.in-Err.ensures.number _ c.in-Err.ensures.place _

pub returns-in-Err-clause-position : goal.returns-in-Err-clause-position
returns-in-Err-clause-position c = c.refused.ensures.position ∙ book-position c.in-Err.refusal _ _ c.refused.ensures.number c.in-Err.ensures.number _ c.in-Err.ensures.place _
