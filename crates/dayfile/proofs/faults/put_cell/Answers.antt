-- Four stores put the cell's four words down.
use mathlib.Core.Path.{◌≡◌, sym, ◌∙◌}
use native.Mathlib.Omega.{arith}
use lib.ListN.{length}
use Rattle.dayfile.specs.Numbers.{numbers}
use Rattle.dayfile.proofs.Numbers.{length-numbers, number_at}
use Rattle.rules.proofs.Numbered.{four-members}
use Rattle.dayfile.proofs.FourWords.{stored-long, stored-front, stored-rest, stored_row}
use borrow.Author.Rules.{rules}
use Rattle.dayfile.proofs.faults.put_cell.Goals as goal

pub returns : goal.returns
returns c =
    let a = c.args in
    let xs = a.words.now in
    let v = a.v in
    let four : length v ≡ 4 = search rules in
    let n = four-members (numbers v) (length-numbers v ∙ four) in
    let whole : length xs ≡ 16384 = search rules in record { row = stored_row xs a.c.0 _ _ _ _ (omega arith) ∙ sym (rw (← number_at v 0, ← number_at v 1, ← number_at v 2, ← number_at v 3) n); before = stored-front xs a.c.0 _ _ _ _; behind = stored-rest xs a.c.0 _ _ _ _; long = stored-long xs a.c.0 _ _ _ _ ∙ whole }
