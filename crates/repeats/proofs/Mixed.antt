-- A row's words mixed, one more in front, and the bucket that they give.
use mathlib.Core.Path.{◌≡◌, refl, ◌∙◌, ap}
use mathlib.Core.List.{List, [], ◌∷◌, reverse, reverse-cons}
use Prim.Native.Nat.{ℕ, ◌+◌, ◌*◌, ◌%◌, ◌<◌}
use native.Mathlib.Omega.{arith}
use Rattle.std.specs.List.{fold}
use Rattle.std.proofs.lemmas.List.Sums.{fold_push}
use Rattle.repeats.specs.Rows.{mixed, bucket_of}

pub mixed-below : (xs : List ℕ) → mixed xs < 4294967296
unfolding mixed
mixed-below [] = omega arith
mixed-below (x ∷ xs) = omega arith

-- one word more
abbrev pub mix : ℕ → ℕ → ℕ
mix a x = (a + x) % 4294967296 * 2654435761 % 4294967296

-- the words mixed from the last to the first
pub mixed-is : (xs : List ℕ) → fold mix 0 (reverse xs) ≡ mixed xs
unfolding mixed
mixed-is [] = refl
mixed-is (x ∷ xs) = rw (reverse-cons x xs) (fold_push mix 0 (reverse xs) x ∙ ap (λ a. mix a x) (mixed-is xs))

pub bucket-below : (xs : List ℕ) → bucket_of xs < 8192
unfolding bucket_of
bucket-below xs = omega (arith, mixed-below xs)
