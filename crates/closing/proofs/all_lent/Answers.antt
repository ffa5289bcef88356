-- All may be lent, or one may not.
use mathlib.Core.Path.{◌≡◌, refl, ap, ◌∙◌}
use mathlib.Core.Bool.{Bool, ◌&&◌}
use mathlib.Core.List.{List, [], ◌∷◌}
use lib.IntN.{ℤ}
use borrow.Author.Rules.{rules}
use borrow.Author.Tests.{tests}
use Rattle.std.proofs.lemmas.Iterator.{YieldsList-from_slice}
use Rattle.std.proofs.lemmas.Iterator.Search.{all_from_yields_List}
use Rattle.std.specs.List.{list_all}
use Rattle.rules.specs.Lists.{all_of}
use Rattle.rules.specs.Phases.{counted}
use Rattle.closing.proofs.all_lent.Goals as goal

-- the library's test of all members is the documents'
all-is : (p : ℤ → Bool) (xs : List ℤ) → list_all p xs ≡ all_of p xs
unfolding all_of
all-is p [] = refl
all-is p (x ∷ xs) = ap (λ (b : Bool). p x && b) (all-is p xs)

pub returns : goal.returns
returns c =
    let xs = c.args.counts.now in
    let e : c.all.result ≡ list_all counted xs = all_from_yields_List counted _ _ _ c.all.ensures.ran (YieldsList-from_slice xs (search rules)) (λ x b q k. search (rules, tests)) in
    e ∙ all-is counted xs
