-- With 11 the place is the book's.
use mathlib.Core.Path.{◌≡◌, refl, sym, ap, ◌∙◌}
use Rattle.daybook_c.proofs.Telling.{book-key, book-position}
use Rattle.boxing.specs.Answers.{some_ends}
use Rattle.daybook_c.proofs.Given.{ends-put, ends-kept, some-put, none-put}
use Rattle.daybook_c.proofs.boxed.daybook_whole_box.Goals as goal

pub returns-in-Err-clause-key : goal.returns-in-Err-clause-key
returns-in-Err-clause-key c = c.refused.ensures.key ∙ book-key c.in-Err.refusal _ _ c.refused.ensures.number c.in-Err.ensures.number _ c.in-Err.ensures.place _

pub returns-in-Err-clause-position : goal.returns-in-Err-clause-position
returns-in-Err-clause-position c = c.refused.ensures.position ∙ book-position c.in-Err.refusal _ _ c.refused.ensures.number c.in-Err.ensures.number _ c.in-Err.ensures.place _

pub returns-in-Ok-Some-clause-some : goal.returns-in-Ok-Some-clause-some
returns-in-Ok-Some-clause-some c = some-put _ _ (sym (ap some_ends c.in-Ok-Some.field-0-is) ∙ c.in-Ok-Some.ensures.ends)

pub returns-in-Ok-Some-clause-ends : goal.returns-in-Ok-Some-clause-ends
returns-in-Ok-Some-clause-ends c = c.into.ensures ∙ ends-put _ _ (sym (ap some_ends c.in-Ok-Some.field-0-is) ∙ c.in-Ok-Some.ensures.ends) _

pub returns-in-Ok-None-clause-some : goal.returns-in-Ok-None-clause-some
returns-in-Ok-None-clause-some c = none-put _ (sym (ap some_ends c.in-Ok-None.field-0-is) ∙ c.in-Ok-None.ensures.ends)

pub returns-in-Ok-None-clause-ends : goal.returns-in-Ok-None-clause-ends
returns-in-Ok-None-clause-ends c = ends-kept _ (sym (ap some_ends c.in-Ok-None.field-0-is) ∙ c.in-Ok-None.ensures.ends) _

pub returns-in-Err-clause-ends : goal.returns-in-Err-clause-ends
returns-in-Err-clause-ends c = ends-kept _ c.in-Err.ensures.ends _
