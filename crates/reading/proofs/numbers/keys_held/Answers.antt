-- The keys passed are counted, and at the end they are the sixteen.
use mathlib.Core.Path.{◌≡◌, sym, ap, ◌∙◌}
use Prim.Native.Nat.{ℕ}
use native.Mathlib.Omega.{arith}
use lib.ListN.{length}
use Rattle.rules.specs.Lists.{up_to, keep}
use Rattle.rules.specs.Book.{held, keys_held}
use Rattle.rules.specs.Calls.{held_count}
use Rattle.rules.proofs.First.{kept-none, kept_more, kept_same}
use Rattle.reading.proofs.numbers.keys_held.Goals.{then-held, else-held}
use Rattle.reading.proofs.numbers.keys_held.Goals as goal

pub loop-k-init : goal.loop-k-init
loop-k-init c = (omega arith, kept-none (held c.args.book.now))

pub loop-k-preserved : goal.loop-k-preserved
loop-k-preserved c =
    let b = c.args.book.now in
    let l = c.loop-k in
    let e = c.held.ensures in
    elim c.if-held.branch [
      | then-held w ↦ (omega arith, w.n-is ∙ kept_more (held b) l.k l.n l.invariant.1 (sym e ∙ w.if-held.true))
      | else-held w ↦ (omega arith, w.n-is ∙ kept_same (held b) l.k l.n l.invariant.1 (sym e ∙ w.if-held.false))
    ]

pub returns : goal.returns
unfolding held_count keys_held
returns c =
    let b = c.args.book.now in
    let l = c.loop-k in
    let k : l.k ≡ 16 = omega arith in
    l.invariant.1 ∙ ap (λ (k : ℕ). length (keep (held b) (up_to k))) k
