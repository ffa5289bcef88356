-- A right frame keeps each count far below 2^32, so the sum fits.
use native.Mathlib.Omega.{arith}
use Rattle.reading.proofs.NumberCases.{odds-one, odds-two, odds-low}
use Rattle.reading.proofs.numbers.odd_sum.Goals as goal

pub returns-then-dim-lt3 : goal.returns-then-dim-lt3
returns-then-dim-lt3 c =
    let a = c.args in
    let t = odds-one a.book.now (omega (arith, c.dim.ensures.dim, c.if-dim-lt3.true)) in
    omega (arith, t, c.count-n.ensures)

pub overflow_add-result : goal.overflow_add-result
overflow_add-result c =
    let s = c in
    let t = odds-low s.args.book.now c.dim.ensures.right.frame (omega (arith, c.dim.ensures.dim, c.if-dim-lt3.false)) in
    omega (arith, t, c.count-n.ensures, c.count.ensures)

pub returns : goal.returns
returns c =
    let a = c.args in
    let t = odds-two a.book.now (omega (arith, c.dim.ensures.dim, c.if-dim-lt3.false)) in
    omega (arith, t, c.count-n.ensures, c.count.ensures)
