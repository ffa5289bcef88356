-- All needs are held.
use mathlib.Core.Path.{◌≡◌, refl, ap, ◌∙◌}
use mathlib.Core.Bool.{Bool, ◌&&◌}
use mathlib.Core.List.{List, [], ◌∷◌}
use Prim.Native.Nat.{ℕ}
use borrow.Author.Rules.{rules}
use borrow.Author.Tests.{tests}
use Rattle.std.specs.List.{list_all}
use Rattle.std.proofs.lemmas.Iterator.{YieldsList-from_slice}
use Rattle.std.proofs.lemmas.Iterator.Search.{all_from_yields_List}
use Rattle.rules.specs.Lists.{all_of}
use Rattle.rules.specs.Book.{dim, held, needs}
use Rattle.frame.proofs.Listed.{listed}
use Rattle.daybook.proofs.makes.needs_held.Goals as goal

all-listed : (p : ℕ → Bool) (xs : List ℕ) → list_all p xs ≡ all_of p xs
unfolding all_of
all-listed p [] = refl
all-listed p (x ∷ xs) = ap (λ (b : Bool). p x && b) (all-listed p xs)

pub returns : goal.returns
returns c =
    let a = c.args in
    let needed = c.needs_of-needs.ensures in
    let names : c.keys.result.now ≡ needs (dim a.book.now) a.d a.e = c.keys.ensures ∙ listed _ _ _ needed.keys needed.count ∙ ap (λ (D : ℕ). needs D a.d a.e) c.dim.ensures in
    let f = all_from_yields_List (held a.book.now) _ _ c.all.result c.all.ensures.ran (YieldsList-from_slice c.keys.result.now (search rules)) (λ x b q k. search (rules, tests)) in
    f ∙ all-listed (held a.book.now) c.keys.result.now ∙ ap (all_of (held a.book.now)) names
