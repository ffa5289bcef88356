-- The free words, run by run.
use mathlib.Core.Path.{◌≡◌, refl, sym, ap, ◌∙◌}
use mathlib.Core.Bool.{Bool, true, false, cond, not, ◌&&◌, true≢false}
use mathlib.Core.Logic.{◌⊎◌, inl, inr}
use mathlib.Core.List.{List, [], ◌∷◌, ◌++◌}
use mathlib.Core.Option.{none, some}
use Prim.Native.Nat.{ℕ, suc, ◌+◌, ◌-◌, ◌≤◌, ◌<◌}
use native.Mathlib.Omega.{arith}
use lib.ListN.{length, get_or, drop, length-drop}
use lib.Dec.{eqb, ltb}
use borrow.Author.Tests.{lt-ltb, le-ltb}
use lib.Bits.{bit_or}
use Rattle.std.specs.Prelude.{Some, None}
use Rattle.std.specs.Option.{unwrap_or}
use Rattle.std.specs.List.{fold, position_or_len}
use Rattle.std.proofs.Math.Bool.{and_assoc, and-true}
use Rattle.rules.specs.Lists.{up_to, all_of, first_at}
use Rattle.rules.specs.Book.{held}
use Rattle.rules.specs.Broken.{relation_bad, broken_key, broken_place, rows_broken, broken_at}
use Rattle.rules.proofs.Tests.{left, right, any_none}
use Rattle.rules.proofs.Steps.{or-none}
use Rattle.rules.proofs.Keep.{up_to-is}
use Rattle.rules.proofs.BrokenSteps.{Fine, key-none}
use Rattle.rules.proofs.Compared.{lt-or-le}
use Rattle.rules.proofs.Searched.{any-first, first-most}

-- a word that is not 0
abbrev pub set_word : ℕ → Bool
set_word w = not (eqb 0 w)

-- words put together by or are 0 exactly if each of them is
pub together-none : (a : ℕ) (xs : List ℕ) → eqb (fold bit_or a xs) 0 ≡ (eqb a 0 && all_of (eqb 0) xs)
unfolding all_of
together-none a [] = sym (and-true (eqb a 0))
together-none a (x ∷ xs) = together-none (bit_or a x) xs ∙ ap (λ (b : Bool). b && all_of (eqb 0) xs) (or-none a x) ∙ and_assoc (eqb a 0) (eqb 0 x) (all_of (eqb 0) xs)

-- the first place, as std finds it
place-is : (p : ℕ → Bool) (xs : List ℕ) → position_or_len p xs ≡ first_at p xs
unfolding first_at
place-is p [] = refl
place-is p (x ∷ xs) = go (p x) (place-is p xs)
  where
    go : (b : Bool) → position_or_len p xs ≡ first_at p xs → cond (not b) (1 + position_or_len p xs) 0 ≡ cond b 0 (suc (first_at p xs))
    go true e = refl
    go false e = omega arith

pub place-or-length : (p : ℕ → Bool) (xs : List ℕ)
    → unwrap_or (cond (ltb (position_or_len p xs) (length xs)) (Some (position_or_len p xs)) None) (length xs) ≡ first_at p xs
place-or-length p xs = rw (place-is p xs) (go (lt-or-le (first_at p xs) (length xs)))
  where
    go : (first_at p xs < length xs) ⊎ (length xs ≤ first_at p xs) → unwrap_or (cond (ltb (first_at p xs) (length xs)) (Some (first_at p xs)) None) (length xs) ≡ first_at p xs
    go (inl l) = rw (lt-ltb _ _ l)
    go (inr l) = let m = first-most p 0 xs in rw (le-ltb _ _ l) (omega arith)

-- ---- the first word that is not 0, run by run
pub run_passed : (xs ys : List ℕ) → all_of (eqb 0) xs ≡ true → first_at set_word (xs ++ ys) ≡ length xs + first_at set_word ys
unfolding all_of first_at
run_passed [] ys z = omega arith
run_passed (x ∷ xs) ys z = let h = run_passed xs ys (right (eqb 0 x) _ z) in rw (left (eqb 0 x) _ z) (omega arith)

pub run-found : (xs ys : List ℕ) → all_of (eqb 0) xs ≡ false → first_at set_word (xs ++ ys) ≡ first_at set_word xs
unfolding all_of first_at
run-found [] ys z = absurd (true≢false z)
run-found (x ∷ xs) ys z = go (eqb 0 x) z (run-found xs ys)
  where
    go : (b : Bool) → (b && all_of (eqb 0) xs) ≡ false → (all_of (eqb 0) xs ≡ false → first_at set_word (xs ++ ys) ≡ first_at set_word xs)
        → cond (not b) 0 (suc (first_at set_word (xs ++ ys))) ≡ cond (not b) 0 (suc (first_at set_word xs))
    go true h f = ap suc (f h)
    go false h f = refl

-- ---- where no relation shows a fault, they decide
module _ (ws : List ℕ) (f : Fine ws 16) where
  pub free-decides : ltb (first_at set_word (drop (get_or ws 4 0) ws)) (length ws - get_or ws 4 0) ≡ rows_broken ws
  unfolding rows_broken
  free-decides =
      sym (rw (any_none (λ j. held ws j && relation_bad ws j) (up_to 16) (λ j x. f j (up_to-is j 16 x)), any-first set_word (drop (get_or ws 4 0) ws), length-drop))

  pub free-place : first_at set_word (drop (get_or ws 4 0) ws) ≡ broken_place ws
  unfolding broken_place
  free-place = rw (key-none ws f)

-- ---- the answer
pub placed_at : (ws : List ℕ) (k p : ℕ) → rows_broken ws ≡ true → broken_key ws ≡ k → broken_place ws ≡ p → some (k, p) ≡ broken_at ws
unfolding broken_at
placed_at ws k p b x y = rw (b, x, y)

pub placed-nowhere : (ws : List ℕ) → rows_broken ws ≡ false → none ≡ broken_at ws
unfolding broken_at
placed-nowhere ws b = rw b
