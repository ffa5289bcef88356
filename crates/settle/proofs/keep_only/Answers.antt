-- The relations passed that the mask names are kept, and from the next one on the book is as it was.
use mathlib.Core.Path.{◌≡◌, sym, ap, ◌∙◌}
use mathlib.Core.List.{List, map}
use Prim.Native.Nat.{ℕ, ◌+◌, ◌<◌}
use native.Mathlib.Numerals.{add-one}
use native.Mathlib.Omega.{arith}
use lib.ListN.{get_or}
use Rattle.rules.specs.Lists.{up_to}
use Rattle.rules.specs.Book.{place}
use Rattle.rules.proofs.Numbered.{get_d_rows}
use Rattle.rules.proofs.FrameRule.{framed, place-rises}
use Rattle.book.specs.declared.Place.{Place}
use Rattle.book.specs.Numbers.{numbers}
use Rattle.book.proofs.Numbers.{number_at}
use Rattle.settle.proofs.Lowering.{keeping_none, keeping-skip, keeping-more, keeping_all}
use Rattle.settle.proofs.keep_only.Goals.{then-named, else-named}
use Rattle.settle.proofs.keep_only.Goals as goal

-- the place of relation k, from the array
at_place : (ws : List ℕ) (at : List Place) → numbers at ≡ map (place ws) (up_to 17) → (k : ℕ) → k < 17 → (get_or at k (record { 0 = 0 })).0 ≡ place ws k
at_place ws at e k l = sym (number_at at k) ∙ ap (λ (a : List ℕ). get_or a k 0) e ∙ get_d_rows (place ws) 17 k 0 l

pub loop-k-init : goal.loop-k-init
loop-k-init c = (c.places_of-places.ensures, keeping_none _ _ c.requires)

pub move_down-to-requires : goal.move_down-to-requires
move_down-to-requires c = let l = c.loop-k in
    let s = c in
    let t = c.loop-k-test.true in
    let a = at_place _ _ l.invariant.0 l.k (omega arith) in
    let b = at_place _ _ l.invariant.0 (l.k + 1) (omega arith) in
    let f = framed _ s.requires.frame in
    let o = place-rises s.args.book.now l.k (l.k + 1) (omega arith) in
    let e = place-rises s.args.book.now (l.k + 1) 16 (omega arith) in
    (record { order = omega arith; inside = omega (arith, f.ends, f.fits, l.invariant.1.size) }, omega (arith, l.invariant.1.low))

pub loop-k-preserved : goal.loop-k-preserved
loop-k-preserved c = let l = c.loop-k in
    let t = c.loop-k-test.true in
    let p = c.named.ensures in
    let a = at_place _ _ l.invariant.0 l.k (omega arith) in
    let b = at_place _ _ l.invariant.0 (l.k + 1) (omega arith) in (
      l.invariant.0,
      elim c.if-named.branch [
        | then-named w ↦
            rw (w.book-is, w.to-is, w.move_down-to.ensures.words, w.move_down-to.ensures.place, a, b, add-one l.k)
            (keeping-more _ _ c.requires l.k _ _ l.invariant.1 (omega arith) (sym p ∙ w.if-named.true))
        | else-named w ↦ rw (w.book-is, w.to-is, add-one l.k) (keeping-skip _ _ c.requires l.k _ _ l.invariant.1 (omega arith) (sym p ∙ w.if-named.false))
      ],
    )

pub returns : goal.returns
returns c = let l = c.loop-k in
    let e : l.k ≡ 16 = omega arith in
    keeping_all _ _ c.requires _ _ (rw e at l.invariant.1)
