-- Each answer comes with the tests that were passed before it; axes times N_0 fits, since there are two or three axes where it is computed.
use borrow.Author.Tests.{ne_eqb, eq-eqb}
use mathlib.Core.Path.{◌≡◌, ap}
use Prim.Native.Nat.{ℕ, ◌*◌, ◌≤◌}
use native.Mathlib.Nat.{mul-le-mul_right}
use native.Mathlib.Omega.{arith}
use lib.ListN.{length}
use lib.Dec.{eqb}
use Rattle.rules.specs.Book.{count}
use Rattle.book.proofs.Flags.{off, on}
use Rattle.boxing.proofs.Answered.{axes-low, axes-high, length-off, not_finite, lendable}
use Rattle.boxing.proofs.lent.Goals as goal

pub returns-then-axes-lt2-clause-number : goal.returns-then-axes-lt2-clause-number
returns-then-axes-lt2-clause-number c = let a = c.args in axes-low a.book.now a.coordinates.now a.axes (omega arith)

pub returns-then-axes-gt3-clause-number : goal.returns-then-axes-gt3-clause-number
returns-then-axes-gt3-clause-number c = let a = c.args in axes-high a.book.now a.coordinates.now a.axes (omega arith)

pub overflow_mul-sized : goal.overflow_mul-sized
overflow_mul-sized c =
    let axed : let a = c.args in (2 ≤ a.axes) × (a.axes ≤ 3) =
    (omega arith, omega arith) in
    omega (arith, mul-le-mul_right c.count.result (axed).1, c.count.type_inv)

pub returns-then-not-sized-clause-number : goal.returns-then-not-sized-clause-number
returns-then-not-sized-clause-number c =
    let axed : let a = c.args in (2 ≤ a.axes) × (a.axes ≤ 3) =
    (omega arith, omega arith) in
    let sized : let a = c.args in eqb (length a.coordinates.now) (a.axes * c.count.result) ≡ eqb (length a.coordinates.now) (a.axes * count a.book.now 0) =
    let a = c.args in ap (λ (n : ℕ). eqb (length a.coordinates.now) (a.axes * n)) c.count.ensures in
    let n = c in
    let a = n.args in
    let x = axed in
    length-off a.book.now a.coordinates.now a.axes x.0 x.1 (off (sized) (ne_eqb _ _ c.if-not-sized.true))

pub returns-then-not-finite-clause-number : goal.returns-then-not-finite-clause-number
returns-then-not-finite-clause-number c =
    let axed : let a = c.args in (2 ≤ a.axes) × (a.axes ≤ 3) =
    (omega arith, omega arith) in
    let sized : let a = c.args in eqb (length a.coordinates.now) (a.axes * c.count.result) ≡ eqb (length a.coordinates.now) (a.axes * count a.book.now 0) =
    let a = c.args in ap (λ (n : ℕ). eqb (length a.coordinates.now) (a.axes * n)) c.count.ensures in
    let n = c in
    let a = n.args in
    let x = axed in
    not_finite a.book.now a.coordinates.now a.axes x.0 x.1 (on (sized) (eq-eqb _ _ c.if-not-sized.false)) (off c.all_finite-finite.ensures c.if-not-finite.true)

pub returns-clause-number : goal.returns-clause-number
returns-clause-number c =
    let axed : let a = c.args in (2 ≤ a.axes) × (a.axes ≤ 3) =
    (omega arith, omega arith) in
    let sized : let a = c.args in eqb (length a.coordinates.now) (a.axes * c.count.result) ≡ eqb (length a.coordinates.now) (a.axes * count a.book.now 0) =
    let a = c.args in ap (λ (n : ℕ). eqb (length a.coordinates.now) (a.axes * n)) c.count.ensures in
    let n = c in
    let a = n.args in
    let x = axed in
    lendable a.book.now a.coordinates.now a.axes x.0 x.1 (on (sized) (eq-eqb _ _ c.if-not-sized.false)) (on c.all_finite-finite.ensures c.if-not-finite.false)
