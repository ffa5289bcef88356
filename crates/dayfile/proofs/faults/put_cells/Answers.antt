-- The invariant: the cells passed are put down.
use mathlib.Core.Path.{◌∙◌}
use borrow.Author.Rules.{rules}
use Rattle.dayfile.specs.Words.{four_words}
use Rattle.dayfile.proofs.FourWords.{put-none, put-more}
use Rattle.dayfile.proofs.faults.put_cells.Goals as goal

pub loop-c-init : goal.loop-c-init
loop-c-init c = put-none _ _ (search rules)

pub loop-c-preserved : goal.loop-c-preserved
unfolding four_words
loop-c-preserved c =
    let l = c.loop-c in
    let e = c.put_cell.ensures in
    put-more _ _ l.words c.put_cell.new.words l.c l.invariant e.long e.before e.behind (e.row ∙ c.cell-corners.ensures)
