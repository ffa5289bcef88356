-- The lowest vertex, edge and cell that do not pass, looked at in that order.
use mathlib.Core.Path.{◌≡◌, sym, ap, ◌∙◌}
use mathlib.Core.List.{List, [], ◌∷◌}
use mathlib.Core.Bool.{false}
use Prim.Native.Nat.{ℕ}
use native.Mathlib.Omega.{arith}
use Rattle.rules.specs.Lists.{up_to, any_of, first_at}
use Rattle.rules.specs.Book.{count}
use Rattle.rules.specs.Calls.{first_broken}
use Rattle.rules.specs.Sheet.{unused, branched, unmatched}
use Rattle.std.specs.Prelude.{Option, None}
use Rattle.kinds.specs.Lowest.{lowest_below}
use Rattle.kinds.proofs.Lowest.{found-below, none-below}
use Rattle.sheets.specs.Answers.{by_entities}
use Rattle.sheets.proofs.Looked.{found-off, none-off, passed-off}
use Rattle.sheets.proofs.testing.tested.Goals as goal
use Rattle.sheets.proofs.testing.tested.Goals.{After-first_branched-branched, After-first_unmatched}

-- what was found is the book's
branched-is : (c : After-first_branched-branched) → let ws = c.args.book.now in c.first_branched-branched.result ≡ lowest_below (λ v. v) (count ws 1) (first_at (branched ws) (up_to (count ws 1)))
branched-is c = let e = c.of-triangles.ensures in rw e at c.first_branched-branched.ensures

unmatched-is : (c : After-first_unmatched) → let ws = c.args.book.now in c.first_unmatched.result ≡ lowest_below (λ v. v) (count ws 2) (first_at (unmatched ws) (up_to (count ws 2)))
unmatched-is c = let e = c.of-triangles.ensures in rw e at c.first_unmatched.ensures

pub returns-in-Some : goal.returns-in-Some
unfolding by_entities
returns-in-Some c =
    let ws = c.args.book.now in
    let (l, e) = found-below (λ v. v) (count ws 0) _ c.in-Some.v (sym c.in-Some.is ∙ (rw c.words.ensures.words at c.first_unused-unused.ensures)) in
    ap (λ (x : ℕ). 28 ∷ 2 ∷ x ∷ []) e ∙ found-off 2 (count ws 0) (unused ws) _ _ l

-- where no vertex was found, and no edge
used : (ws : List ℕ) (r : Option ℕ) → r ≡ None → r ≡ lowest_below (λ v. v) (count ws 0) (first_at (unused ws) (up_to (count ws 0))) → any_of (unused ws) (up_to (count ws 0)) ≡ false
used ws r n e = let l = none-below (λ v. v) (count ws 0) _ (sym n ∙ e) in none-off (count ws 0) (unused ws) (λ k. omega arith)

plain : (ws : List ℕ) (r : Option ℕ) → r ≡ None → r ≡ lowest_below (λ v. v) (count ws 1) (first_at (branched ws) (up_to (count ws 1))) → any_of (branched ws) (up_to (count ws 1)) ≡ false
plain ws r n e = let l = none-below (λ v. v) (count ws 1) _ (sym n ∙ e) in none-off (count ws 1) (branched ws) (λ k. omega arith)

pub returns-in-Some-branched : goal.returns-in-Some-branched
unfolding by_entities
returns-in-Some-branched c =
    let ws = c.args.book.now in
    let (l, e) = found-below (λ v. v) (count ws 1) _ c.in-Some-branched.k (sym c.in-Some-branched.is ∙ (branched-is (goal.at.returns-in-Some-branched c).After-first_branched-branched)) in
    ap (λ (x : ℕ). 28 ∷ 3 ∷ x ∷ []) e
    ∙ found-off 3 (count ws 1) (branched ws) _ _ l
    ∙ passed-off 2 (count ws 0) (unused ws) _ _ (used ws _ c.in_default.is (rw c.words.ensures.words at c.first_unused-unused.ensures))

pub returns-in-Some-first_unmatched : goal.returns-in-Some-first_unmatched
unfolding by_entities
returns-in-Some-first_unmatched c =
    let ws = c.args.book.now in
    let (l, e) = found-below (λ v. v) (count ws 2) _ c.in-Some-first_unmatched.c (sym c.in-Some-first_unmatched.is ∙ (unmatched-is (goal.at.returns-in-Some-first_unmatched c).After-first_unmatched)) in
    ap (λ (x : ℕ). 28 ∷ 4 ∷ x ∷ []) e
    ∙ found-off 4 (count ws 2) (unmatched ws) _ _ l
    ∙ passed-off 3 (count ws 1) (branched ws) _ _ (plain ws _ c.in_default-branched.is (branched-is (goal.at.returns-in-Some-first_unmatched c).After-first_branched-branched))
    ∙ passed-off 2 (count ws 0) (unused ws) _ _ (used ws _ c.in_default.is (rw c.words.ensures.words at c.first_unused-unused.ensures))

pub returns : goal.returns
unfolding by_entities first_broken
returns c =
    let ws = c.args.book.now in
    let l = none-below (λ v. v) (count ws 2) _ (sym c.in_default-first_unmatched.is ∙ (unmatched-is (goal.at.returns c).After-first_unmatched)) in
    rw (used ws _ c.in_default.is (rw c.words.ensures.words at c.first_unused-unused.ensures), plain ws _ c.in_default-branched.is (branched-is (goal.at.returns c).After-first_branched-branched), none-off (count ws 2) (unmatched ws) (λ k. omega arith))
