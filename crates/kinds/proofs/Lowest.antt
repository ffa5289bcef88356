-- What a search among numbers gives, by whether there is a lowest.
use mathlib.Core.Path.{◌≡◌}
use Prim.Native.Nat.{ℕ, ◌≤◌, ◌<◌}
use borrow.Author.Tests.{lt-ltb, le-ltb}
use Rattle.std.proofs.Common.{inl, inr}
use Rattle.std.proofs.lemmas.Bool.{cases_lt}
use Rattle.std.specs.Prelude.{Some, None, ◌⊎◌}
use Rattle.kinds.specs.Lowest.{lowest_below}

module _ {A : Type 0} (f : ℕ → A) (n x : ℕ) where
  pub some-below : x < n → Some (f x) ≡ lowest_below f n x
  unfolding lowest_below
  some-below l = rw (lt-ltb x n l)

  pub none-past : n ≤ x → None ≡ lowest_below f n x
  unfolding lowest_below
  none-past l = rw (le-ltb x n l)

  -- what was found is below n, and where none was found there is none
  pub found-below : (a : A) → Some a ≡ lowest_below f n x → (x < n) × (a ≡ f x)
  found-below a e = go (cases_lt x n)
    where
      go : (x < n) ⊎ (n ≤ x) → (x < n) × (a ≡ f x)
      go (inl l) = let h = some-below l in (l, cc)
      go (inr l) = let h = none-past l in cc

  pub none-below : None ≡ lowest_below f n x → n ≤ x
  none-below e = go (cases_lt x n)
    where
      go : (x < n) ⊎ (n ≤ x) → n ≤ x
      go (inl l) = let h = some-below l in cc
      go (inr l) = l
