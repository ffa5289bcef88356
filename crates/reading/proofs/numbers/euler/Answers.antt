-- Each test decides Euler's number, or leaves the rules behind it; the two sums' difference is the Euler number.
use mathlib.Core.Path.{◌≡◌, refl, sym, ap₂, ◌∙◌}
use mathlib.Core.Bool.{false}
use lib.IntN.{sub_ℕ}
use mir.Syntax.{w64}
use mir.ValLaws.{to_z-of_z}
use Rattle.rules.specs.Book.{Right}
use Rattle.rules.specs.Calls.{euler_number, euler_rules, alternating, euler_of}
use Rattle.rules.proofs.Told.{untold-as}
use Rattle.right.proofs.Checks.{refuses}
use Rattle.reading.specs.Parts.{evens, odds}
use Rattle.reading.proofs.NumberCases.{missing, euler-15-edges, euler-15-faces, euler-0}
use Rattle.reading.proofs.numbers.euler.Goals.{After-set_missing, After-set_missing-2, After-even_sum}
use Rattle.reading.proofs.numbers.euler.Goals as goal

right : (c : After-set_missing) → Right c.args.book.now
right c = rw c.in_ok-right.ensures.words at c.in_ok-right.ensures.right

edged : (c : After-set_missing-2) → missing c.args.book.now 1 ≡ false
unfolding missing
edged c = sym c.set_missing.ensures ∙ c.if-set_missing.false

faced : (c : After-even_sum) → missing c.args.book.now 2 ≡ false
unfolding missing
faced c = sym c.set_missing-2.ensures ∙ c.if-set_missing-2.false

pub returns-in_err-right-clause-number : goal.returns-in_err-right-clause-number
unfolding euler_number euler_rules
returns-in_err-right-clause-number c = (refuses c.args.book.now _ _ _ c.from_residual.ensures.1 c.in_err-right.ensures.number c.in_err-right.ensures.place).number

pub returns-in_err-right-clause-place : goal.returns-in_err-right-clause-place
unfolding euler_number euler_rules
returns-in_err-right-clause-place c = (refuses c.args.book.now _ _ _ c.from_residual.ensures.1 c.in_err-right.ensures.number c.in_err-right.ensures.place).place

pub returns-then-set_missing : goal.returns-then-set_missing
unfolding missing
returns-then-set_missing c =
    let r = right (goal.at.returns-then-set_missing c).After-set_missing in
    let e = euler-15-edges c.args.book.now r.frame r.rows (sym c.set_missing.ensures ∙ c.if-set_missing.true) in
    record { number = e; place = untold-as 15 _ _ refl e; value = record {} }

pub returns-then-set_missing-2 : goal.returns-then-set_missing-2
unfolding missing
returns-then-set_missing-2 c =
    let at = goal.at.returns-then-set_missing-2 c in
    let r = right at.After-set_missing in
    let e = euler-15-faces c.args.book.now r.frame r.rows (edged at.After-set_missing-2) (sym c.set_missing-2.ensures ∙ c.if-set_missing-2.true) in
    record { number = e; place = untold-as 15 _ _ refl e; value = record {} }

pub returns : goal.returns
unfolding euler_of alternating evens odds
returns c =
    let at = goal.at.returns c in
    let r = right at.After-set_missing in
    let e = euler-0 c.args.book.now r.frame r.rows (edged at.After-set_missing-2) (faced at.After-even_sum) in
    record { number = e; place = untold-as 0 _ _ refl e; value = to_z-of_z w64 c.difference.result (record { sfits = c.difference.type_inv }) ∙ c.difference.ensures ∙ rw (← c.in_ok-right.ensures.words) (ap₂ sub_ℕ c.even_sum.ensures c.odd_sum.ensures) }
