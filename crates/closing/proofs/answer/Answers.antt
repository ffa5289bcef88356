-- Each answer comes with the tests that were passed before it, and 11 with the place that was found.
use mathlib.Core.Path.{◌≡◌, refl, sym, ap, ◌∙◌}
use mathlib.Core.Bool.{true}
use Rattle.rules.specs.Book.{dim, key, held, Right}
use Rattle.rules.specs.Closures.{close_number, close_rules}
use Rattle.book.proofs.Flags.{off, on}
use Rattle.right.proofs.Checks.{refuses}
use Rattle.closing.proofs.Answered.{twelve, fifteen, fifteen-too, twenty-one, twenty-two, accepted, bare}
use Rattle.closing.proofs.answer.Goals.{After-dim, After-held, After-held-2, After-lengths_right-sized, Else-not-sized}
use Rattle.closing.proofs.answer.Goals as goal

right : (c : After-dim) → Right c.args.book.now
right c = rw c.in_ok-right.ensures.words at c.in_ok-right.ensures.right

over-one : (c : After-held) → dim c.args.book.now ≡ 1 → ⊥
over-one c e = c.if-dim-eq1.false (c.dim.ensures.dim ∙ ap dim c.in_ok-right.ensures.words ∙ e)

-- whether 1→0 and 2→0 are held, as the book says
edges-asked : (c : After-held) → c.held.result ≡ held c.args.book.now (key 1 0)
edges-asked c = rw (c.in_ok-right.ensures.words, c.key.ensures) at c.held.ensures

faces-asked : (c : After-held-2) → c.held-2.result ≡ held c.args.book.now (key 2 0)
faces-asked c = rw (c.in_ok-right.ensures.words, c.key-2.ensures) at c.held-2.ensures

edges-held : (c : After-held-2) → held c.args.book.now (key 1 0) ≡ true
edges-held c = on (rw (c.in_ok-right.ensures.words, c.key.ensures) at c.held.ensures) c.if-not-held.false

faces-held : (c : After-lengths_right-sized) → held c.args.book.now (key 2 0) ≡ true
faces-held c = on (rw (c.in_ok-right.ensures.words, c.key-2.ensures) at c.held-2.ensures) c.if-not-held-2.false

pub returns-in_err-right : goal.returns-in_err-right
unfolding close_number close_rules
returns-in_err-right c =
    let r = refuses c.args.book.now _ _ _ c.from_residual.ensures.1 c.in_err-right.ensures.number c.in_err-right.ensures.place in
    record { number = r.number; place = r.place }

pub returns-then-dim-eq1 : goal.returns-then-dim-eq1
returns-then-dim-eq1 c =
    let at = goal.at.returns-then-dim-eq1 c in
    let a = c.args in
    let r = right at.After-dim in
    let all = bare a.book.now 12 refl (twelve a.book.now a.counts.now a.closures a.steps a.bytes r.frame r.rows (sym (ap dim c.in_ok-right.ensures.words) ∙ sym c.dim.ensures.dim ∙ c.if-dim-eq1.true)) in
    record { number = all.0; place = all.1 }

pub returns-then-not-held : goal.returns-then-not-held
returns-then-not-held c =
    let at = goal.at.returns-then-not-held c in
    let a = c.args in
    let r = right at.After-dim in
    let all = bare a.book.now 15 refl (fifteen a.book.now a.counts.now a.closures a.steps a.bytes r.frame r.rows (over-one at.After-held) (off (edges-asked at.After-held) c.if-not-held.true)) in
    record { number = all.0; place = all.1 }

pub returns-then-not-held-2 : goal.returns-then-not-held-2
returns-then-not-held-2 c =
    let at = goal.at.returns-then-not-held-2 c in
    let a = c.args in
    let r = right at.After-dim in
    let all = bare a.book.now 15 refl (fifteen-too a.book.now a.counts.now a.closures a.steps a.bytes r.frame r.rows (over-one at.After-held) (edges-held at.After-held-2) (off (faces-asked at.After-held-2) c.if-not-held-2.true)) in
    record { number = all.0; place = all.1 }

pub returns-then-not-sized : goal.returns-then-not-sized
returns-then-not-sized c =
    let at = goal.at.returns-then-not-sized c in
    let a = c.args in
    let r = right at.After-dim in
    let all = bare a.book.now 21 refl (twenty-one a.book.now a.counts.now a.closures a.steps a.bytes r.frame r.rows (over-one at.After-held) (edges-held at.After-held-2) (faces-held at.After-lengths_right-sized) (off c.lengths_right-sized.ensures c.if-not-sized.true)) in
    record { number = all.0; place = all.1 }

pub returns-then-not-lent : goal.returns-then-not-lent
returns-then-not-lent c =
    let at = goal.at.returns-then-not-lent c in
    let a = c.args in
    let r = right at.After-dim in
    let all = bare a.book.now 22 refl (twenty-two a.book.now a.counts.now a.closures a.steps a.bytes r.frame r.rows (over-one at.After-held) (edges-held at.After-held-2) (faces-held at.After-lengths_right-sized) (on c.lengths_right-sized.ensures c.if-not-sized.false) (off c.all_lent-lent.ensures c.if-not-lent.true)) in
    record { number = all.0; place = all.1 }

pub returns : goal.returns
returns c =
    let at = goal.at.returns c in
    let a = c.args in
    let r = right at.After-dim in
    let all = bare a.book.now 0 refl (accepted a.book.now a.counts.now a.closures a.steps a.bytes r.frame r.rows (over-one at.After-held) (edges-held at.After-held-2) (faces-held at.After-lengths_right-sized) (on c.lengths_right-sized.ensures c.if-not-sized.false) (on c.all_lent-lent.ensures c.if-not-lent.false)) in
    record { number = all.0; place = all.1 }
