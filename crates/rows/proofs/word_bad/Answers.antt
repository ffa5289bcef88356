-- The bound, then the index before.
use mathlib.Core.Path.{sym}
use native.Mathlib.Omega.{arith}
use Rattle.rows.proofs.Walked.{bad-large, bad-first, bad-later}
use Rattle.rows.proofs.word_bad.Goals as goal

pub returns-then-bound-x : goal.returns-then-bound-x
returns-then-bound-x c = let a = c.args in sym (bad-large a.row.now a.bound a.i c.if-bound-x.true)

pub returns-then-i-eq0 : goal.returns-then-i-eq0
returns-then-i-eq0 c = let a = c.args in sym (bad-first a.row.now a.bound a.i c.if-i-eq0.true c.if-bound-x.false)

pub returns : goal.returns
returns c = let a = c.args in sym (bad-later a.row.now a.bound a.i (omega (arith, c.if-i-eq0.false)) c.if-bound-x.false)
