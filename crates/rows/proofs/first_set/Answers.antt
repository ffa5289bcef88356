-- The place of the first word that is not 0.
use mathlib.Core.Path.{ap, ◌∙◌}
use borrow.Author.Rules.{rules}
use borrow.Author.Tests.{tests}
use lib.ListN.{length}
use Rattle.std.specs.Option.{unwrap_or}
use Rattle.std.proofs.lemmas.Iterator.{YieldsList-from_slice}
use Rattle.std.proofs.lemmas.Iterator.Search.{position_from_yields_List}
use Rattle.rows.proofs.Free.{set_word, place-or-length}
use Rattle.rows.proofs.first_set.Goals as goal

pub returns : goal.returns
returns c =
    let ws = c.args.words.now in
    let f = position_from_yields_List set_word _ _ c.position.result c.position.ensures.ran (YieldsList-from_slice ws (search rules)) (λ x b q k. search (rules, tests)) in
    c.unwrap_or.ensures ∙ ap (λ o. unwrap_or o (length ws)) f ∙ place-or-length set_word ws
