-- The definition's tests.
use Prim.Native.Nat.{◌%◌}
use native.Mathlib.Omega.{arith}
use borrow.Author.Tests.{eq-eqb, ne_eqb, lt-ltb, le-ltb}
use Rattle.rows.specs.Seen.{size_of}
use Rattle.rows.proofs.row_size.Goals as goal

pub returns-then-k-ne0 : goal.returns-then-k-ne0
unfolding size_of
returns-then-k-ne0 c = rw (ne_eqb (c.args.k % 4) 0 c.if-k-ne0.true)

pub returns-then-k-eq0 : goal.returns-then-k-eq0
unfolding size_of
returns-then-k-eq0 c =
    let k = c.args.k in
    rw (eq-eqb (k % 4) 0 (omega arith), le-ltb 0 k (omega arith))

pub returns : goal.returns
unfolding size_of
returns c =
    let k = c.args.k in
    rw (eq-eqb (k % 4) 0 (omega arith), lt-ltb 0 k (omega arith))
