-- With 7, 8 and 23 the cell is the file's.
use mathlib.Core.Path.{◌≡◌, sym, ◌∙◌}
use Rattle.daybook_c.proofs.Telling.{file-cell}
use Rattle.daybook_c.proofs.daybook_load.Goals as goal

pub returns-in-Err-clause-cell : goal.returns-in-Err-clause-cell
returns-in-Err-clause-cell c = c.put_cell.ensures ∙ file-cell c.in-Err.refusal c.number.result c.number.ensures c.args.file.now c.args.book.now c.in-Err.ensures.number c.in-Err.ensures.cell _
