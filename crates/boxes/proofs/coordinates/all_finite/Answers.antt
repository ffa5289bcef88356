-- All are finite, or one is not.
use mathlib.Core.Path.{◌≡◌, ◌∙◌}
use lib.Ieee.Scale.{finite}
use borrow.Author.Rules.{rules}
use borrow.Author.Tests.{tests}
use Rattle.std.proofs.lemmas.Iterator.{YieldsList-from_slice}
use Rattle.std.proofs.lemmas.Iterator.Search.{all_from_yields_List}
use Rattle.std.specs.List.{list_all}
use Rattle.boxes.proofs.Tested.{all-is}
use Rattle.boxes.proofs.coordinates.all_finite.Goals as goal

pub returns : goal.returns
returns c =
    let xs = c.args.coordinates.now in
    let e : c.all.result ≡ list_all finite xs = all_from_yields_List finite _ _ _ c.all.ensures.ran (YieldsList-from_slice xs (search rules)) (λ x b q k. search (rules, tests)) in
    e ∙ all-is finite xs
