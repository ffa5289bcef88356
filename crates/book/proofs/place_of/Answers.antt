-- The invariant: at is where the relation of key j begins. From key 32 on none is held, so the place stays.
use mathlib.Core.Path.{◌≡◌, refl, sym, ap, ◌∙◌}
use mathlib.Core.Logic.{inl, inr}
use native.Mathlib.Omega.{arith}
use Rattle.std.proofs.lemmas.Bool.{cases_lt}
use Rattle.rules.specs.Book.{place}
use Rattle.rules.proofs.AnyWords.{place_still}
use Rattle.book.proofs.place_of.Goals as goal

pub loop-j-init : goal.loop-j-init
unfolding place
loop-j-init c = refl

pub returns : goal.returns
returns c =
    let a = c.args in
    let here = c.loop-j.invariant in
    elim (cases_lt a.k 32) [
      | inl l ↦ let e : c.loop-j.j ≡ a.k = omega arith in here ∙ ap (place a.book.now) e
      | inr l ↦
          let e : c.loop-j.j ≡ 32 = omega arith in
          here ∙ ap (place a.book.now) e ∙ sym (place_still a.book.now (λ i. (c.type_inv.book i).fits) a.k l)
    ]
