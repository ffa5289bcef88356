-- What a search among numbers gives: what stands for the lowest that it found, or none.
use Rattle.std.specs.Prelude.{cond, ℕ, Option, Some, None, ltb}

-- what stands for x where x is below n, and none otherwise
unfoldable pub lowest_below : {A : Type 0} → (ℕ → A) → ℕ → ℕ → Option A
lowest_below f n x = cond (ltb x n) (Some (f x)) None
