-- The number is the first of what is told; with 11 the place is the book's, and where accepted the rim's three numbers are given.
use mathlib.Core.Path.{◌≡◌, refl, sym, ap, ◌∙◌}
use lib.ListN.{length, get_or}
use Rattle.kinds.proofs.Determined.{first-of-why}
use Rattle.daybook_c.proofs.Sheeting.{number-told, carried-told, rim-given}
use Rattle.daybook_c.proofs.Telling.{book-key, book-position}
use Rattle.daybook_c.proofs.sheeted.daybook_sheet.Goals.{In-Ok, After-refused}
use Rattle.daybook_c.proofs.sheeted.daybook_sheet.Goals as goal

pub returns-in-Ok : goal.returns-in-Ok
returns-in-Ok c =
    let w = c.in-Ok.ensures in
    let n = number-told _ _ _ _ _ _ w.answer in
    let r = rim-given _ _ _ _ _ c.in-Ok.found n w.given in
    record {
      number = n;
      key = refl;
      position = refl;
      why = carried-told _ _ _ _ _ _ w.answer 1 _;
      which = carried-told _ _ _ _ _ _ w.answer 2 _;
      length = r.0;
      vertices = r.1;
      edges = r.2;
      across = w.across;
      bytes = w.bytes;
      old_vertices = w.vertices;
      old_edges = w.edges;
    }

pub returns-in-Err-clause-number : goal.returns-in-Err-clause-number
returns-in-Err-clause-number c = c.refused.ensures.number ∙ first-of-why c.in-Err.refusal ∙ number-told _ _ _ _ _ _ c.in-Err.ensures.answer

pub returns-in-Err-clause-key : goal.returns-in-Err-clause-key
returns-in-Err-clause-key c = c.refused.ensures.key ∙ book-key c.in-Err.refusal _ _ c.refused.ensures.number (first-of-why c.in-Err.refusal ∙ number-told _ _ _ _ _ _ c.in-Err.ensures.answer) _ c.in-Err.ensures.place _

pub returns-in-Err-clause-position : goal.returns-in-Err-clause-position
returns-in-Err-clause-position c = c.refused.ensures.position ∙ book-position c.in-Err.refusal _ _ c.refused.ensures.number (first-of-why c.in-Err.refusal ∙ number-told _ _ _ _ _ _ c.in-Err.ensures.answer) _ c.in-Err.ensures.place _
