-- The edges are searched for the first that has not one or two cells.
use mathlib.Core.Path.{◌≡◌}
use mathlib.Core.Bool.{true, false}
use borrow.Author.Rules.{rules}
use borrow.Author.Tests.{tests}
use Rattle.std.proofs.lemmas.Iterator.{first_from_Range}
use Rattle.rules.specs.Sheet.{branched}
use Rattle.cells.proofs.Lowest.{found-is}
use Rattle.sheets.proofs.testing.first_branched.Goals as goal

pub returns : goal.returns
returns c =
    let p = branched c.args.triangles.now.book.now in
    rw c.count.ensures at (found-is p c.count.result c.find.result
    (first_from_Range _ _ _ c.find.result (λ k. p k ≡ true) (λ k. p k ≡ false) c.find.ensures.ran (λ x q h. search (rules, tests)) (λ x q h. search (rules, tests))))
