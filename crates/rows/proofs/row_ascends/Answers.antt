-- Each word is above the one before it. Of words that ascend the last is the greatest, so it alone is held against the bound.
use mathlib.Core.Path.{◌≡◌, refl, sym, ◌∙◌}
use mathlib.Core.Bool.{Bool, true, false, ◌&&◌}
use mathlib.Core.List.{List}
use Prim.Native.Nat.{ℕ, ◌-◌, ◌≤◌, ◌<◌}
use native.Mathlib.Numerals.{add-one}
use native.Mathlib.Omega.{arith}
use borrow.Author.Rules.{rules}
use borrow.Author.Tests.{tests, ltb-true, ltb-false}
use lib.Dec.{ltb}
use lib.ListN.{length}
use denote.Ref.{Bor}
use Rattle.std.specs.List.{IsAllAdjacentAnswer, HoldsAt}
use Rattle.std.specs.Option.{MatchOption}
use Rattle.std.specs.Prelude.{Option, Some, None}
use Rattle.std.proofs.lemmas.Fn.{always_returns_same}
use Rattle.rules.specs.Lists.{ascends, all_of}
use Rattle.rules.proofs.Steps.{ascends-are, ascends-not, last-decides, no_words}
use Rattle.rows.proofs.row_ascends.Goals as goal

-- what a test of all neighbours gives
sorted-is : (ws : List ℕ) (r : Bool) → IsAllAdjacentAnswer (λ x y b. b ≡ ltb x y) ws r → r ≡ ascends ws
sorted-is ws true s = sym (ascends-are ws (λ i l. ltb-true _ _ (sym (rw add-one at (s i 0 (omega arith))))))
sorted-is ws false (k, l, f) = sym (ascends-not ws k (omega arith) (ltb-false _ _ (sym (rw add-one at (f 0)))))

-- where they ascend, the last decides
by_last : (ws : List ℕ) (bound : ℕ) (o : Option (Bor ℕ)) (r : Bool) → ascends ws ≡ true
    → MatchOption o (length ws ≤ 0) (λ x. (0 < length ws) × HoldsAt (λ y. x.now ≡ y) ws (length ws - 1))
    → MatchOption o (r ≡ true) (λ x. r ≡ ltb x.now bound)
    → r ≡ (ascends ws && all_of (λ j. ltb j bound) ws)
by_last ws bound None r a l m = m ∙ sym (no_words bound ws (omega arith))
by_last ws bound (Some x) r a (l, e) m = rw (a, last-decides bound ws (length ws - 1) (omega arith) a, ← e 0) m

pub returns-then-is_sorted_by : goal.returns-then-is_sorted_by
returns-then-is_sorted_by c =
    let ws = c.args.row.now in
    let s : IsAllAdjacentAnswer (λ x y b. b ≡ ltb x y) ws c.is_sorted_by.result = c.is_sorted_by.ensures.cases ltb (always_returns_same _ (λ a r. r ≡ ltb a.0.now a.1.0.now) _ (λ a r q k. search (rules, tests))) in
    let a : ascends ws ≡ true = sym (sorted-is ws c.is_sorted_by.result s) ∙ c.if-is_sorted_by.true in
    let m : MatchOption c.last.result (c.is_none_or.result ≡ true) (λ x. c.is_none_or.result ≡ ltb x.now c.args.bound) = search (rules, tests) in
    by_last ws c.args.bound c.last.result c.is_none_or.result a c.last.ensures.item.3 m

pub returns-else-is_sorted_by : goal.returns-else-is_sorted_by
returns-else-is_sorted_by c =
    let s : IsAllAdjacentAnswer (λ x y b. b ≡ ltb x y) c.args.row.now c.is_sorted_by.result = c.is_sorted_by.ensures.cases ltb (always_returns_same _ (λ a r. r ≡ ltb a.0.now a.1.0.now) _ (λ a r q k. search (rules, tests))) in
    let e = sorted-is c.args.row.now c.is_sorted_by.result s in
    let f : ascends c.args.row.now ≡ false = sym e ∙ c.if-is_sorted_by.false in
    rw (f, c.if-is_sorted_by.false) refl
