-- The vertices below n are searched for the first that is not marked.
use mathlib.Core.Bool.{true, false, not}
use mathlib.Core.Path.{◌≡◌}
use borrow.Author.Rules.{rules}
use borrow.Author.Tests.{tests}
use Rattle.std.proofs.lemmas.Iterator.{first_from_Range}
use Rattle.rules.specs.Stamps.{bears}
use Rattle.cells.proofs.Lowest.{found-is}
use Rattle.cells.proofs.unused.first_unmarked.Goals as goal

pub returns : goal.returns
unfolding bears
returns c =
    let m = c.args.marks.now in
    found-is (λ v. not (bears m 1 v)) c.args.n c.find.result
    (first_from_Range _ _ _ c.find.result (λ v. not (bears m 1 v) ≡ true) (λ v. not (bears m 1 v) ≡ false) c.find.ensures.ran (λ x q h. search (rules, tests)) (λ x q h. search (rules, tests)))
