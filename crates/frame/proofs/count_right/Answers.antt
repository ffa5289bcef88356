-- The definition's cases; the bound is a small product.
use mathlib.Core.Path.{◌≡◌, ap, ap₂, ◌∙◌}
use mathlib.Core.Bool.{true, false}
use Prim.Native.Nat.{ℕ, ◌*◌}
use native.Mathlib.Omega.{arith}
use borrow.Author.Tests.{lt-ltb, le-ltb}
use lib.ListN.{get_or}
use Rattle.rules.specs.Book.{dim, count, named, held, mentions, most, count_right}
use Rattle.rules.proofs.AnyWords.{dim-most, most-times}
use Rattle.book.proofs.Flags.{off, on}
use Rattle.frame.proofs.count_right.Goals as goal

pub returns-then-d-top : goal.returns-then-d-top
unfolding count_right
returns-then-d-top c =
    let a = c.args in
    rw (c.word-n.ensures, le-ltb a.d (dim a.book.now) (omega arith))

pub mentions-requires : goal.mentions-requires
mentions-requires c =
    let m = dim-most c.args.book.now (λ i. (c.type_inv.book i).fits) in
    omega arith

pub returns-then-not-mentions : goal.returns-then-not-mentions
unfolding count_right held
returns-then-not-mentions c =
    let a = c.args in
    let h : mentions (named (get_or a.book.now 1 0)) a.d ≡ false = off (c.mentions.ensures ∙ ap (λ (m : ℕ). mentions (named m) a.d) c.word.ensures) c.if-not-mentions.true in
    rw (c.word-n.ensures, lt-ltb a.d (dim a.book.now) (omega arith), h)

-- the product is the bound
bound : (c : goal.After-count) → let a = c.args in
    c.most.result * c.count.result ≡ most (dim a.book.now) a.d * count a.book.now (dim a.book.now)
bound c =
    let a = c.args in
    let e = c.dim-top.ensures in
    ap₂ (λ (m n : ℕ). m * n) (c.most.ensures ∙ ap (λ (D : ℕ). most D a.d) e) (c.count.ensures ∙ ap (count a.book.now) e)

pub overflow_mul-result : goal.overflow_mul-result
overflow_mul-result c =
    let a = c.args in
    let e = c.dim-top.ensures in
    record { fits = rw (bound c) (most-times a.book.now a.d (omega (arith, e, c.if-d-top.false))) }

pub returns : goal.returns
unfolding count_right held
returns c =
    let a = c.args in
    let e = c.dim-top.ensures in
    let h : mentions (named (get_or a.book.now 1 0)) a.d ≡ true = on (c.mentions.ensures ∙ ap (λ (m : ℕ). mentions (named m) a.d) c.word.ensures) c.if-not-mentions.false in
    rw (bound c, c.word-n.ensures, lt-ltb a.d (dim a.book.now) (omega (arith, e, c.if-d-top.false)), h)
