-- Each test decides the number, or leaves the rest to the next.
use Rattle.rules.proofs.Told.{none_right, some-wrong, told-eleven, untold-as}
use Rattle.book.proofs.Flags.{off, on}
use mathlib.Core.Path.{◌≡◌, refl, sym, ◌∙◌}
use mathlib.Core.Bool.{true}
use Rattle.rules.specs.Book.{frame_right, Right}
use Rattle.right.proofs.Checks.{right-10, right-11, right-0}
use Rattle.right.proofs.RightBook.check.Goals.{After-broken_at, In-None}
use Rattle.right.proofs.RightBook.check.Goals as goal

pub returns-then-not-frame_right-clause-number : goal.returns-then-not-frame_right-clause-number
returns-then-not-frame_right-clause-number c = right-10 c.args.words.now (off c.frame_right.ensures c.if-not-frame_right.true)

pub returns-then-not-frame_right-clause-place : goal.returns-then-not-frame_right-clause-place
returns-then-not-frame_right-clause-place c = untold-as 10 _ _ refl (right-10 c.args.words.now (off c.frame_right.ensures c.if-not-frame_right.true))

framed : (c : After-broken_at) → frame_right c.args.words.now ≡ true
framed c = on c.frame_right.ensures c.if-not-frame_right.false

right : (c : In-None) → Right c.args.words.now
right c =
    let f = on c.frame_right.ensures c.if-not-frame_right.false in
    record { frame = f; rows = none_right c.args.words.now f (sym c.in-None.ensures) }

pub invariant_of-result : goal.invariant_of-result
invariant_of-result c = right (goal.at.invariant_of-result c).In-None

pub returns-in-None-clause-right : goal.returns-in-None-clause-right
returns-in-None-clause-right c = right (goal.at.returns-in-None-clause-right c).In-None

pub returns-in-Some-clause-number : goal.returns-in-Some-clause-number
returns-in-Some-clause-number c =
    let f = framed (goal.at.returns-in-Some-clause-number c).After-broken_at in
    right-11 c.args.words.now f (some-wrong c.args.words.now f _ (sym c.in-Some.ensures))

pub returns-in-Some-clause-place : goal.returns-in-Some-clause-place
returns-in-Some-clause-place c =
    let f = framed (goal.at.returns-in-Some-clause-place c).After-broken_at in
    c.in-Some.ensures ∙ told-eleven _ _ (right-11 c.args.words.now f (some-wrong c.args.words.now f _ (sym c.in-Some.ensures)))

pub returns-in-None-clause-number : goal.returns-in-None-clause-number
returns-in-None-clause-number c =
    let f = framed (goal.at.returns-in-None-clause-number c).After-broken_at in
    right-0 c.args.words.now f (none_right c.args.words.now f (sym c.in-None.ensures))

pub returns-in-None-clause-place : goal.returns-in-None-clause-place
returns-in-None-clause-place c =
    let f = framed (goal.at.returns-in-None-clause-place c).After-broken_at in
    untold-as 0 _ _ refl (right-0 c.args.words.now f (none_right c.args.words.now f (sym c.in-None.ensures)))
