-- Each test is a line of the table of refusals behind the sixth, in its order, and each return is the first line that is broken.
use mathlib.Core.Path.{sym, ◌∙◌}
use Prim.Native.Nat.{◌≤◌}
use native.Mathlib.Omega.{arith}
use Rattle.rules.specs.File.{head_cells}
use Rattle.dayfile.proofs.Body.{laid, seventh, eighth, twenty-third, ninth, faultless}
use Rattle.dayfile.proofs.HeadFaults.{passed}
use Rattle.dayfile.proofs.Says.{says}
use Rattle.dayfile.proofs.faults.body_fault.Goals as goal
use Rattle.dayfile.proofs.faults.body_fault.Goals.{After-header-head}

few : (c : After-header-head) → head_cells c.header-head.result.0 ≤ 4096
few c =
    let s = says c.args.file.now _ c.header-head.ensures in
    let p = passed c.args.file.now c.requires in
    omega arith

pub put_cells-requires : goal.put_cells-requires
put_cells-requires c = few (goal.at.put_cells-requires c).After-header-head

pub first_out-requires : goal.first_out-requires
first_out-requires c = few (goal.at.first_out-requires c).After-header-head

pub first_twice-requires : goal.first_twice-requires
first_twice-requires c = few (goal.at.first_twice-requires c).After-header-head

pub first_again-requires : goal.first_again-requires
first_again-requires c = few (goal.at.first_again-requires c).After-header-head

pub bits_after-requires : goal.bits_after-requires
bits_after-requires c =
    let s = says c.args.file.now _ c.header-head.ensures in
    let p = passed c.args.file.now c.requires in
    (c.header-head.ensures, omega arith)

pub returns-in-Some : goal.returns-in-Some
returns-in-Some c = record {
  fault = seventh _ _ _ _ c.header-head.ensures c.requires c.put_cells.ensures c.in-Some.out (c.in-Some.ensures);
  words = laid _ _ _ _ c.header-head.ensures c.requires c.put_cells.ensures;
}

pub returns-in-Some-first_twice : goal.returns-in-Some-first_twice
returns-in-Some-first_twice c = record {
  fault = eighth _ _ _ _ c.header-head.ensures c.requires c.put_cells.ensures (c.in_default.ensures) c.in-Some-first_twice.twice (c.in-Some-first_twice.ensures);
  words = laid _ _ _ _ c.header-head.ensures c.requires c.put_cells.ensures;
}

pub returns-in-Some-first_again : goal.returns-in-Some-first_again
returns-in-Some-first_again c = record {
  fault = twenty-third _ _ _ _ c.header-head.ensures c.requires c.put_cells.ensures (c.in_default.ensures) (c.in_default-first_twice.ensures) c.in-Some-first_again.again (c.in-Some-first_again.ensures);
  words = laid _ _ _ _ c.header-head.ensures c.requires c.put_cells.ensures;
}

pub returns-then-bits_after : goal.returns-then-bits_after
returns-then-bits_after c = record {
  fault = ninth _ _ _ _ c.header-head.ensures c.requires c.put_cells.ensures (c.in_default.ensures) (c.in_default-first_twice.ensures) (c.in_default-first_again.ensures) (sym c.bits_after.ensures ∙ c.if-bits_after.true);
  words = laid _ _ _ _ c.header-head.ensures c.requires c.put_cells.ensures;
}

pub returns : goal.returns
returns c = record {
  fault = faultless _ _ _ _ c.header-head.ensures c.requires c.put_cells.ensures (c.in_default.ensures) (c.in_default-first_twice.ensures) (c.in_default-first_again.ensures) (sym c.bits_after.ensures ∙ c.if-bits_after.false);
  words = laid _ _ _ _ c.header-head.ensures c.requires c.put_cells.ensures;
}
