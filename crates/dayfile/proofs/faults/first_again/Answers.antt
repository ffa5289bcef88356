-- Of the cells' words the lowest cell that repeats an earlier one is found.
use mathlib.Core.Path.{◌≡◌, ◌∙◌}
use native.Mathlib.Omega.{arith}
use Rattle.rules.specs.Lists.{first_repeated}
use Rattle.rules.specs.File.{head_cells}
use Rattle.repeats.specs.Rows.{rows_in}
use Rattle.kinds.proofs.Lowest.{some-below, none-past}
use Rattle.dayfile.specs.Numbers.{cell_numbered}
use Rattle.dayfile.proofs.FourWords.{again-most}
use Rattle.dayfile.proofs.faults.first_again.Goals as goal

pub overflow_cast-c : goal.overflow_cast-c
overflow_cast-c c = omega (arith, again-most c.args.words.now c.cells-count.result)

pub returns-then-c-count : goal.returns-then-c-count
returns-then-c-count c =
    let e : c.first_repeated-c.result ≡ first_repeated (rows_in 4 c.args.words.now (head_cells c.args.head.0)) = c.first_repeated-c.ensures ∙ rw c.cells-count.ensures in
    rw (← e) (some-below cell_numbered (head_cells c.args.head.0) _ (omega arith))

pub returns-else-c-count : goal.returns-else-c-count
returns-else-c-count c =
    let e : c.first_repeated-c.result ≡ first_repeated (rows_in 4 c.args.words.now (head_cells c.args.head.0)) = c.first_repeated-c.ensures ∙ rw c.cells-count.ensures in
    rw (← e) (none-past cell_numbered (head_cells c.args.head.0) _ (omega arith))
