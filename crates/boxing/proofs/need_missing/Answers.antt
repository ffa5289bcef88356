-- d→0 is not asked for where d is 0.
use mathlib.Core.Path.{ap}
use mathlib.Core.Bool.{not}
use native.Mathlib.Omega.{arith}
use borrow.Author.Tests.{lt-ltb}
use Rattle.boxing.proofs.need_missing.Goals as goal

pub returns-then-d-eq0 : goal.returns-then-d-eq0
returns-then-d-eq0 c = rw c.if-d-eq0.true

pub returns : goal.returns
returns c =
    let a = c.args in
    rw (lt-ltb 0 a.d (omega arith), ← c.key.ensures) (ap not c.held.ensures)
