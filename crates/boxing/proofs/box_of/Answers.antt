-- Each answer comes with the tests that were passed before it, and an accepted call with the entity's box.
use mathlib.Core.Path.{◌≡◌, refl, sym, ap, ◌∙◌}
use mathlib.Core.Bool.{false, not, ◌&&◌}
use mathlib.Core.List.{[]}
use Prim.Native.Nat.{◌≤◌, ◌<◌}
use native.Mathlib.Omega.{arith}
use lib.Dec.{ltb}
use Rattle.rules.specs.Book.{dim, count, key, held, Right}
use Rattle.rules.specs.Boxes.{box_number, box_rules, entity_box, box_given}
use Rattle.rules.proofs.FrameRule.{framed}
use Rattle.kinds.specs.Refusals.{given as gives}
use Rattle.right.proofs.Checks.{refuses}
use Rattle.boxes.specs.Growing.{ends_of}
use Rattle.boxing.proofs.Answered.{bare, given, passed-on, few-axes, box-12, box-15, box-17, box-rest}
use Rattle.boxing.proofs.Ready.{not-missing}
use Rattle.boxing.proofs.box_of.Goals.{After-dim, After-need_missing, After-count, After-lent}
use Rattle.boxing.proofs.box_of.Goals as goal

right : (c : After-dim) → Right c.args.book.now
right c = rw c.in_ok-right.ensures.words at c.in_ok-right.ensures.right

low : (c : After-need_missing) → c.args.d ≤ dim c.args.book.now
low c = omega (arith, c.dim.ensures.dim, c.if-d-dim.false, ap dim c.in_ok-right.ensures.words)

has : (c : After-count) → (ltb 0 c.args.d && not (held c.args.book.now (key c.args.d 0))) ≡ false
has c = sym c.need_missing.ensures ∙ c.if-need_missing.false

there : (c : After-lent) → c.args.i < count c.args.book.now c.args.d
there c = omega (arith, c.count.ensures, c.if-i-count.false)

pub returns-in_err-right : goal.returns-in_err-right
unfolding box_number box_rules box_given
returns-in_err-right c =
    let r = refuses c.args.book.now _ _ _ c.from_residual.ensures.1 c.in_err-right.ensures.number c.in_err-right.ensures.place in
    record { number = r.number; place = r.place; ends = ap (gives [] ends_of) r.is ∙ rw r.some }

pub returns-then-d-dim : goal.returns-then-d-dim
unfolding box_given
returns-then-d-dim c =
    let a = c.args in
    let r = right (goal.at.returns-then-d-dim c).After-dim in
    let all = bare a.book.now (entity_box a.book.now a.coordinates.now a.axes a.d a.i) 12 refl refl (box-12 a.book.now a.coordinates.now a.axes a.d a.i r.frame r.rows (omega (arith, c.dim.ensures.dim, c.if-d-dim.true, ap dim c.in_ok-right.ensures.words))) in
    record { number = all.0; place = all.1.0; ends = all.1.1 }

pub need_missing-requires : goal.need_missing-requires
need_missing-requires c =
    let at = goal.at.need_missing-requires c in
    omega (arith, c.dim.ensures.dim, c.if-d-dim.false, ap dim c.in_ok-right.ensures.words, (framed c.args.book.now (right at.After-dim).frame).high)

pub returns-then-need_missing : goal.returns-then-need_missing
unfolding box_given
returns-then-need_missing c =
    let at = goal.at.returns-then-need_missing c in
    let a = c.args in
    let r = right at.After-dim in
    let all = bare a.book.now (entity_box a.book.now a.coordinates.now a.axes a.d a.i) 15 refl refl (box-15 a.book.now a.coordinates.now a.axes a.d a.i r.frame r.rows (low at.After-need_missing) (sym c.need_missing.ensures ∙ c.if-need_missing.true)) in
    record { number = all.0; place = all.1.0; ends = all.1.1 }

pub returns-then-i-count : goal.returns-then-i-count
unfolding box_given
returns-then-i-count c =
    let at = goal.at.returns-then-i-count c in
    let a = c.args in
    let r = right at.After-dim in
    let all = bare a.book.now (entity_box a.book.now a.coordinates.now a.axes a.d a.i) 17 refl refl (box-17 a.book.now a.coordinates.now a.axes a.d a.i r.frame r.rows (low at.After-need_missing) (has at.After-count) (omega (arith, c.count.ensures, c.if-i-count.true))) in
    record { number = all.0; place = all.1.0; ends = all.1.1 }

pub returns-in_err-lent : goal.returns-in_err-lent
unfolding box_given
returns-in_err-lent c =
    let at = goal.at.returns-in_err-lent c in
    let a = c.args in
    let r = right at.After-dim in
    let e = c.in_err-lent.ensures in
    let n = e.number ∙ box-rest a.book.now a.coordinates.now a.axes a.d a.i r.frame r.rows (low at.After-need_missing) (has at.After-count) (there at.After-lent) in
    let all = passed-on a.book.now (entity_box a.book.now a.coordinates.now a.axes a.d a.i) ends_of _ c.from_residual-in_err-lent.result c.from_residual-in_err-lent.ensures.1 e.place n in
    record { number = all.0; place = all.1.0; ends = all.1.1 }

pub entity_box-requires : goal.entity_box-requires
entity_box-requires c =
    let at = goal.at.entity_box-requires c in
    let a = c.args in
    let r = right at.After-dim in
    record {
      mesh = record { frame = r.frame; rows = r.rows; few = few-axes a.book.now a.coordinates.now a.axes c.in_ok-lent.ensures.number };
      low = low at.After-need_missing;
      vertices = not-missing a.book.now a.d (has at.After-count);
      there = there at.After-lent;
    }

pub returns : goal.returns
unfolding box_given
returns c =
    let at = goal.at.returns c in
    let a = c.args in
    let r = right at.After-dim in
    let n = c.in_ok-lent.ensures.number ∙ box-rest a.book.now a.coordinates.now a.axes a.d a.i r.frame r.rows (low at.After-need_missing) (has at.After-count) (there at.After-lent) in
    let all = given a.book.now (entity_box a.book.now a.coordinates.now a.axes a.d a.i) _ c.entity_box.ensures n in
    record { number = all.0; place = all.1.0; ends = all.1.1 }
