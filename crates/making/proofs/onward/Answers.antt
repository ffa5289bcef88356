-- The first need that the mask does not name.
use mathlib.Core.Path.{◌≡◌, ap, ◌∙◌}
use mathlib.Core.Bool.{not}
use Prim.Native.Nat.{◌/◌, ◌%◌}
use borrow.Author.Rules.{rules}
use borrow.Author.Tests.{tests}
use Rattle.std.specs.Option.{unwrap_or}
use Rattle.std.proofs.lemmas.Iterator.{YieldsList-from_slice}
use Rattle.std.proofs.lemmas.Iterator.Consumers.{YieldsList-from_copied}
use Rattle.std.proofs.lemmas.Iterator.Search.{find_from_yields_List}
use Rattle.rules.specs.Book.{named, needs}
use Rattle.rules.specs.Steps.{first_off, onward}
use Rattle.frame.proofs.Listed.{listed}
use Rattle.making.proofs.Walk.{first_off-find, by_value}
use Rattle.making.proofs.onward.Goals as goal

pub returns : goal.returns
unfolding onward
returns c =
    let a = c.args in
    let needed = c.needs_of-needs.ensures in
    let names : c.keys.result.now ≡ needs a.top (a.k / 4) (a.k % 4) = c.keys.ensures ∙ listed _ _ _ needed.keys needed.count in
    let f = find_from_yields_List (λ x. not (named a.mask x)) _ _ c.find.result c.find.ensures.ran (YieldsList-from_copied (YieldsList-from_slice c.keys.result.now (search rules))) (λ x b q k. search (rules, tests)) in
    c.unwrap_or.ensures ∙ by_value c.find.result a.k ∙ ap (λ o. unwrap_or o a.k) f ∙ first_off-find (named a.mask) a.k c.keys.result.now ∙ ap (first_off (named a.mask) a.k) names
