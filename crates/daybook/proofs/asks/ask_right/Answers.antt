-- Each refusal in its order, then all that is asked for or nothing.
use mathlib.Core.Path.{◌≡◌, refl, sym, ap, ◌∙◌}
use mathlib.Core.Bool.{false, ◌&&◌}
use Prim.Native.Nat.{◌≤◌, ◌<◌}
use native.Mathlib.Omega.{arith}
use Rattle.rules.specs.Lists.{up_to, any_of}
use Rattle.rules.specs.Book.{dim}
use Rattle.rules.specs.Calls.{differs, has_to_make}
use Rattle.rules.proofs.Needs.{key-div, key-mod}
use Rattle.rules.proofs.FrameRule.{framed}
use Rattle.rules.proofs.Growing.{start-alike}
use Rattle.kinds.specs.Refusals.{answer_number, answer_place}
use Rattle.making.specs.Growth.{wanted, answered}
use Rattle.making.proofs.Room.{room-number, room-place}
use Rattle.daybook.proofs.MakeCases.{ask-first, ask-second, ask-differs, ask-whole}
use Rattle.daybook.proofs.asks.ask_right.Goals.{Else-e-top, Else-ask_differs}
use Rattle.daybook.proofs.asks.ask_right.Goals as goal

first : (c : Else-e-top) → c.args.d ≤ dim c.args.book.now
first c = rw c.dim-top.ensures at c.if-d-top.false

second : (c : Else-e-top) → c.args.e ≤ dim c.args.book.now
second c = rw c.dim-top.ensures at c.if-e-top.false

-- the entities found are as many as those that are kept
alike : (c : Else-ask_differs) → any_of (λ x. has_to_make c.args.book.now c.args.d c.args.e x && differs c.args.book.now x) (up_to 3) ≡ false
alike c = sym c.ask_differs.ensures ∙ c.if-ask_differs.false

pub returns-then-d-top : goal.returns-then-d-top
returns-then-d-top c =
    let g = ask-first _ c.args.d c.args.e c.requires.frame c.requires.rows (rw c.dim-top.ensures at c.if-d-top.true) in
    record { number = g.number_is; place = refl; words = g.words_are }

pub returns-then-e-top : goal.returns-then-e-top
returns-then-e-top c =
    let g = ask-second _ c.args.d c.args.e c.requires.frame c.requires.rows (rw c.dim-top.ensures at c.if-e-top.true) in
    record { number = g.number_is; place = refl; words = g.words_are }

pub returns-then-ask_differs : goal.returns-then-ask_differs
returns-then-ask_differs c =
    let at = (goal.at.returns-then-ask_differs c).Else-e-top in
    let g = ask-differs _ c.args.d c.args.e c.requires.frame c.requires.rows (first at) (second at) (sym c.ask_differs.ensures ∙ c.if-ask_differs.true) in
    record { number = g.number_is; place = refl; words = g.words_are }

pub key-requires : goal.key-requires
key-requires c =
    let at = (goal.at.key-requires c).Else-e-top in
    let h = (framed _ c.requires.frame).high in
    (omega (arith, h, first at), omega (arith, h, second at))

pub ask_for-requires : goal.ask_for-requires
unfolding wanted
ask_for-requires c =
    let at = goal.at.ask_for-requires c in
    let a = first at.Else-e-top in
    let b = second at.Else-e-top in
    let l : c.args.e < 4 = omega (arith, b, (framed _ c.requires.frame).high) in
    rw c.key.ensures
    record {
      frame = c.requires.frame;
      rows = c.requires.rows;
      first = rw (key-div c.args.d c.args.e l) a;
      second = rw (key-mod c.args.d c.args.e l) b;
      alike = start-alike _ c.requires c.args.d c.args.e (alike at.Else-ask_differs);
    }

pub returns : goal.returns
unfolding wanted answered
returns c =
    let at = goal.at.returns c in
    let w = rw c.key.ensures at c.ask_for.ensures in
    let g = ask-whole _ c.args.d c.args.e c.requires.frame c.requires.rows (first at.Else-e-top) (second at.Else-e-top) (alike at.Else-ask_differs) _ refl _ w.words in
    record { number = ap answer_number w.fits ∙ room-number _ _ ∙ g.number_is; place = ap answer_place w.fits ∙ room-place _ _; words = g.words_are }
