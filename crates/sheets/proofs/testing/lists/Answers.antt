-- Some cell of the row is the one asked for.
use mathlib.Core.Path.{◌≡◌, ◌∙◌}
use lib.Dec.{eqb}
use borrow.Author.Rules.{rules}
use borrow.Author.Tests.{tests}
use Rattle.std.proofs.lemmas.Iterator.{YieldsList-from_slice}
use Rattle.std.proofs.lemmas.Iterator.Search.{any_from_yields_List}
use Rattle.std.specs.List.{list_any}
use Rattle.rules.specs.Sheet.{cells_at}
use Rattle.sheets.proofs.Looked.{any-has}
use Rattle.sheets.proofs.testing.lists.Goals as goal

pub returns : goal.returns
returns c =
    let row = cells_at c.args.triangles.now.book.now c.args.k in
    let n = c.args.c in
    let e : c.any.result ≡ list_any (λ j. eqb j n) row = any_from_yields_List (λ j. eqb j n) _ _ _ c.any.ensures.ran (YieldsList-from_slice row cc) (λ x b q k. search (rules, tests)) in
    e ∙ any-has row n
