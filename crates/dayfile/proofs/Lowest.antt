-- Of rows given by their number the lowest that passes the test, or none.
use mathlib.Core.Path.{◌≡◌}
use mathlib.Core.Bool.{Bool, true, false}
use mathlib.Core.List.{map}
use Prim.Native.Nat.{ℕ, ◌≤◌, ◌<◌}
use native.Mathlib.Omega.{arith}
use lib.ListN.{length}
use Rattle.std.specs.Option.{MatchOption, option_map}
use Rattle.std.specs.Prelude.{Option, Some, None}
use Rattle.rules.specs.Lists.{up_to, first_at}
use Rattle.rules.proofs.Searched.{first-is}
use Rattle.rules.proofs.Numbered.{length-rows, get_d_rows}
use Rattle.kinds.specs.Lowest.{lowest_below}
use Rattle.kinds.proofs.Lowest.{some-below, none-past}
use Rattle.dayfile.specs.Numbers.{cell_numbered}

-- what `find` says of the numbers from 0 to n
module _ {A : Type 0} (p : A → Bool) (f : ℕ → A) (n : ℕ) where
  pub cell-found : (r : Option ℕ)
      → MatchOption r ((k : ℕ) → 0 ≤ k → k < n → p (f k) ≡ false) (λ i. (0 ≤ i) × (i < n) × (p (f i) ≡ true) × ((k : ℕ) → 0 ≤ k → k < i → p (f k) ≡ false))
      → option_map cell_numbered r ≡ lowest_below cell_numbered n (first_at p (map f (up_to n)))
  cell-found None b =
      let z : length (map f (up_to n)) ≡ n = length-rows f n in
      let e : first_at p (map f (up_to n)) ≡ n
      = first-is p (f 0) (map f (up_to n)) n (omega arith) (λ j m. rw (get_d_rows f n j (f 0) m) (b j (omega arith) m)) (λ m. absurd (omega arith)) in
      none-past cell_numbered n _ (omega (arith, e))
  cell-found (Some c) (low, l, t, b) =
      let e : first_at p (map f (up_to n)) ≡ c
      = first-is p (f 0) (map f (up_to n)) c (rw length-rows (omega arith)) (λ j m. rw (get_d_rows f n j (f 0) (omega arith)) (b j (omega arith) m)) (λ m. rw (get_d_rows f n c (f 0) l) t) in
      rw e (some-below cell_numbered n c l)
