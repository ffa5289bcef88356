-- Four reads give the cell's four words.
use mathlib.Core.Path.{sym}
use native.Mathlib.Omega.{arith}
use Rattle.dayfile.specs.Numbers.{numbers}
use Rattle.dayfile.proofs.FourWords.{row_is}
use Rattle.dayfile.proofs.faults.cell_at.Goals as goal

pub returns : goal.returns
unfolding numbers
returns c =
    let a = c.args in
    sym (row_is a.words.now a.c.0 (omega arith))
