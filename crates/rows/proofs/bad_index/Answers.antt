-- The places of the row are searched for the first at fault.
use mathlib.Core.Path.{◌≡◌, sym, ◌∙◌}
use mathlib.Core.Bool.{Bool, true, false}
use Prim.Native.Nat.{ℕ, ◌≤◌, ◌<◌}
use native.Mathlib.Omega.{arith}
use borrow.Author.Rules.{rules}
use borrow.Author.Tests.{tests}
use lib.ListN.{length}
use Rattle.std.specs.Option.{MatchOption, unwrap_or}
use Rattle.std.specs.Prelude.{Option, Some, None}
use Rattle.std.proofs.lemmas.Iterator.{first_from_Range}
use Rattle.rules.specs.Lists.{up_to, first_at}
use Rattle.rules.specs.Broken.{word_bad}
use Rattle.rules.proofs.Searched.{least-is}
use Rattle.rows.proofs.bad_index.Goals as goal

-- what `find` gives of the numbers from 0 to n, or n
found-or : (p : ℕ → Bool) (n : ℕ) (r : Option ℕ)
    → MatchOption r ((k : ℕ) → 0 ≤ k → k < n → p k ≡ false) (λ i. (0 ≤ i) × (i < n) × (p i ≡ true) × ((k : ℕ) → 0 ≤ k → k < i → p k ≡ false))
    → unwrap_or r n ≡ first_at p (up_to n)
found-or p n None b = sym (least-is p n n (omega arith) (λ j l. b j (omega arith) l) (λ l. absurd (omega arith)))
found-or p n (Some i) (low, l, t, b) = sym (least-is p n i (omega arith) (λ j l. b j (omega arith) l) (λ l. t))

pub returns : goal.returns
returns c =
    let a = c.args in
    let p = word_bad a.bound a.row.now in
    c.unwrap_or.ensures
    ∙ found-or p (length a.row.now) c.find.result
    (first_from_Range _ _ _ c.find.result (λ i. p i ≡ true) (λ i. p i ≡ false) c.find.ensures.ran (λ x q h. search (rules, tests)) (λ x q h. search (rules, tests)))
