-- A search of the numbers below n finds the lowest that passes the test, or none.
use mathlib.Core.Path.{◌≡◌}
use mathlib.Core.Bool.{Bool, true, false}
use Prim.Native.Nat.{ℕ, ◌≤◌, ◌<◌}
use native.Mathlib.Omega.{arith}
use Rattle.std.specs.Option.{MatchOption}
use Rattle.std.specs.Prelude.{Option, Some, None}
use Rattle.rules.specs.Lists.{up_to, first_at}
use Rattle.rules.proofs.Searched.{least-is}
use Rattle.kinds.specs.Lowest.{lowest_below}
use Rattle.kinds.proofs.Lowest.{some-below, none-past}

-- what `find` says of the numbers from 0 to n
pub found-is : (p : ℕ → Bool) (n : ℕ) (r : Option ℕ)
    → MatchOption r ((k : ℕ) → 0 ≤ k → k < n → p k ≡ false) (λ i. (0 ≤ i) × (i < n) × (p i ≡ true) × ((k : ℕ) → 0 ≤ k → k < i → p k ≡ false))
    → r ≡ lowest_below (λ v. v) n (first_at p (up_to n))
found-is p n None b =
    let e : first_at p (up_to n) ≡ n = least-is p n n (omega arith) (λ j l. b j (omega arith) l) (λ l. absurd (omega arith)) in
    none-past (λ v. v) n _ (omega (arith, e))
found-is p n (Some i) (low, l, t, b) =
    let e : first_at p (up_to n) ≡ i = least-is p n i (omega arith) (λ j l. b j (omega arith) l) (λ l. t) in
    rw e (some-below (λ v. v) n i l)
