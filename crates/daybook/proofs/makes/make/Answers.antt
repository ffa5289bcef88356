-- Each refusal in its order, then the relation made or no room for it.
use mathlib.Core.Path.{◌≡◌, refl, sym, ap, ◌∙◌}
use mathlib.Core.Bool.{false, ◌&&◌}
use mathlib.Core.Option.{none}
use Prim.Native.Nat.{◌≤◌}
use native.Mathlib.Omega.{arith}
use lib.Dec.{eqb}
use Rattle.rules.specs.Book.{dim, key, held, Right}
use Rattle.rules.specs.Broken.{broken_at, told}
use Rattle.rules.specs.Calls.{differs, make_number, make_rules, make_words}
use Rattle.rules.proofs.FrameRule.{framed}
use Rattle.rules.proofs.Told.{right-none, untold-none}
use Rattle.book.proofs.Flags.{off, on}
use Rattle.right.proofs.Checks.{refuses}
use Rattle.kinds.specs.Refusals.{answer_number, answer_place}
use Rattle.making.specs.Growth.{Makable, grown}
use Rattle.making.proofs.Room.{room-number, room-place}
use Rattle.daybook.proofs.MakeCases.{make-first, make-second, make-held, make-need, make-differs, make-whole}
use Rattle.daybook.proofs.makes.make.Goals.{In_ok-check, Else-e-top, After-needs_held, After-make_differs, After-add}
use Rattle.daybook.proofs.makes.make.Goals as goal

right : (c : In_ok-check) → Right c.args.book.now
right c = rw c.in_ok-check.ensures.words at c.in_ok-check.ensures.right

-- a right book has no place to tell
untold : (c : In_ok-check) → none ≡ told (make_number c.args.book.now c.args.d c.args.e) (broken_at c.args.book.now)
untold c = let r = right c in untold-none _ _ (right-none c.args.book.now r.frame r.rows)

first : (c : Else-e-top) → c.args.d ≤ dim c.args.book.now
first c = omega (arith, c.dim-top.ensures.dim, ap dim c.in_ok-check.ensures.words, c.if-d-top.false)

second : (c : Else-e-top) → c.args.e ≤ dim c.args.book.now
second c = omega (arith, c.dim-top.ensures.dim, ap dim c.in_ok-check.ensures.words, c.if-e-top.false)

new : (c : After-needs_held) → held c.args.book.now (key c.args.d c.args.e) ≡ false
new c = ap (held _) (sym c.key.ensures) ∙ sym c.held.ensures ∙ c.if-held.false

makable : (c : After-make_differs) → Makable c.args.book.now c.args.d c.args.e
makable c =
    let r : Right c.args.book.now = rw c.in_ok-check.ensures.words at c.in_ok-check.ensures.right in
    record {
      frame = r.frame;
      rows = r.rows;
      first = omega (arith, c.dim-top.ensures.dim, ap dim c.in_ok-check.ensures.words, c.if-d-top.false);
      second = omega (arith, c.dim-top.ensures.dim, ap dim c.in_ok-check.ensures.words, c.if-e-top.false);
      new = ap (held _) (sym c.key.ensures) ∙ sym c.held.ensures ∙ c.if-held.false;
      sources = on c.needs_held.ensures c.if-not-needs_held.false;
    }

alike : (c : After-add) → (eqb c.args.e 0 && differs c.args.book.now c.args.d) ≡ false
alike c = sym c.make_differs.ensures ∙ c.if-make_differs.false

pub returns-in_err-check : goal.returns-in_err-check
unfolding make_number make_rules make_words
returns-in_err-check c =
    let r = refuses c.args.book.now _ _ _ c.from_residual.ensures.1 c.in_err-check.ensures.number c.in_err-check.ensures.place in
    record { number = r.number; place = r.place; words = rw r.some }

pub returns-then-d-top : goal.returns-then-d-top
returns-then-d-top c =
    let p = (goal.at.returns-then-d-top c).In_ok-check in
    let r = right p in
    let g = make-first c.args.book.now c.args.d c.args.e r.frame r.rows (omega (arith, c.dim-top.ensures.dim, ap dim c.in_ok-check.ensures.words, c.if-d-top.true)) in
    record { number = g.number_is; place = untold p; words = g.words_are }

pub returns-then-e-top : goal.returns-then-e-top
returns-then-e-top c =
    let p = (goal.at.returns-then-e-top c).In_ok-check in
    let r = right p in
    let g = make-second c.args.book.now c.args.d c.args.e r.frame r.rows (omega (arith, c.dim-top.ensures.dim, ap dim c.in_ok-check.ensures.words, c.if-e-top.true)) in
    record { number = g.number_is; place = untold p; words = g.words_are }

pub key-requires : goal.key-requires
key-requires c =
    let at = goal.at.key-requires c in
    let h = (framed _ (right at.In_ok-check).frame).high in
    (omega (arith, h, first at.Else-e-top), omega (arith, h, second at.Else-e-top))

pub returns-then-held : goal.returns-then-held
returns-then-held c =
    let at = goal.at.returns-then-held c in
    let r = right at.In_ok-check in
    let g = make-held c.args.book.now c.args.d c.args.e r.frame r.rows (first at.Else-e-top) (second at.Else-e-top) (ap (held _) (sym c.key.ensures) ∙ sym c.held.ensures ∙ c.if-held.true) in
    record { number = g.number_is; place = untold at.In_ok-check; words = g.words_are }

pub needs_held-requires : goal.needs_held-requires
needs_held-requires c =
    let at = goal.at.needs_held-requires c in
    let h = (framed _ (right at.In_ok-check).frame).high in
    (omega (arith, h, first at.Else-e-top), (omega (arith, h, second at.Else-e-top), h))

pub returns-then-not-needs_held : goal.returns-then-not-needs_held
returns-then-not-needs_held c =
    let at = goal.at.returns-then-not-needs_held c in
    let r = right at.In_ok-check in
    let g = make-need c.args.book.now c.args.d c.args.e r.frame r.rows (first at.Else-e-top) (second at.Else-e-top) (new at.After-needs_held) (off c.needs_held.ensures c.if-not-needs_held.true) in
    record { number = g.number_is; place = untold at.In_ok-check; words = g.words_are }

pub returns-then-make_differs : goal.returns-then-make_differs
returns-then-make_differs c =
    let at = goal.at.returns-then-make_differs c in
    let f = makable at.After-make_differs in
    let g = make-differs c.args.book.now c.args.d c.args.e f.frame f.rows f.first f.second f.new f.sources (sym c.make_differs.ensures ∙ c.if-make_differs.true) in
    record { number = g.number_is; place = untold at.In_ok-check; words = g.words_are }

pub returns : goal.returns
unfolding grown
returns c =
    let at = goal.at.returns c in
    let f = makable at.After-make_differs in
    let w = c.add.ensures in
    let g = make-whole c.args.book.now c.args.d c.args.e f.frame f.rows f.first f.second f.new f.sources (alike at.After-add) _ refl _ w.words in
    record {
      number = ap answer_number w.fits ∙ room-number _ _ ∙ g.number_is;
      place = ap answer_place w.fits ∙ room-place _ _ ∙ untold at.In_ok-check;
      words = g.words_are;
    }
