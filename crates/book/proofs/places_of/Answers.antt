-- The invariant: each place up to the k-th is right.
use mathlib.Core.Path.{◌≡◌, refl, sym, ◌∙◌}
use mathlib.Core.Logic.{inl, inr}
use Prim.Native.Nat.{◌+◌, ◌<◌}
use native.Mathlib.Nat.{eq-or-lt_of_le}
use native.Mathlib.Omega.{arith}
use lib.ListN.{length, length-set}
use lib.Seq.{get_or-set_same, get_or-set_other}
use Rattle.rules.specs.Book.{place}
use Rattle.rules.proofs.Steps.{rows_are}
use Rattle.book.specs.Numbers.{numbers}
use Rattle.book.proofs.Numbers.{length-numbers, number_at, number-set}
use Rattle.book.proofs.places_of.Goals as goal

pub loop-k-init : goal.loop-k-init
unfolding place numbers
loop-k-init c = (refl, λ j l. let e : j ≡ 0 = omega arith in rw e)

pub behind-requires : goal.behind-requires
behind-requires c =
    let l = c.loop-k in
    (omega arith, sym (number_at l.at l.k) ∙ l.invariant.1 l.k (omega arith))

pub loop-k-preserved : goal.loop-k-preserved
loop-k-preserved c =
    let l = c.loop-k in
    let p = c.behind.result in
    let w : l.k + 1 < length (numbers l.at) = rw (length-numbers l.at, l.invariant.0) (omega arith) in (
      length-set l.at (l.k + 1) p ∙ l.invariant.0,
      λ j m.
          rw (number-set l.at (l.k + 1) p)
          (elim (eq-or-lt_of_le m) [
            | inl e ↦ rw e (get_or-set_same (numbers l.at) (l.k + 1) p.0 0 w ∙ c.behind.ensures)
            | inr g ↦ get_or-set_other (numbers l.at) (l.k + 1) j p.0 0 (λ e. omega arith) ∙ l.invariant.1 j (omega arith)
          ]),
    )

pub returns : goal.returns
returns c =
    let l = c.loop-k in
    rows_are (place c.args.book.now) 17 (numbers l.at) 0 (length-numbers l.at ∙ l.invariant.0) (λ i m. l.invariant.1 i (omega arith))
