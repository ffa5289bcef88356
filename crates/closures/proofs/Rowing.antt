-- Rows of one size among the words: each word names a count, and that count may be lent.
use mathlib.Core.Path.{◌≡◌, refl, sym, subst}
use mathlib.Core.Bool.{Bool, true, false, cond, ◌||◌}
use mathlib.Core.List.{List}
use Prim.Native.Nat.{ℕ, suc, ◌+◌, ◌-◌, ◌*◌, ◌≤◌, ◌<◌}
use native.Mathlib.Numerals.{add-one}
use native.Mathlib.Omega.{arith}
use lib.ListN.{length, get_or, take, drop}
use lib.Seq.{drop-cons}
use lib.Dec.{T, ltb}
use lib.IntN.{ℤ, pos}
use borrow.Author.Tests.{ltb-true}
use Rattle.rules.proofs.Tests.{all-place}
use Rattle.rules.specs.Phases.{masked, counted, step_count, turns}
use Rattle.rules.specs.Closures.{count_at, edge_masked, edge_step, edge_byte}
use Rattle.rules.specs.Lists.{all_of}
use Rattle.closures.specs.Rows.{pair_at, triple_at, Rowed}
use Rattle.closures.specs.Steps.{step_of, turns_written, byte_written}
use Rattle.closures.specs.declared.values.Step.TheVariants as steps

module _ (size n : ℕ) (words : List ℕ) (counts : List ℤ) (rows : Rowed size n words counts) (at : ℕ) (h : at < length words) where
  pub word_below : get_or words at 0 < length counts
  word_below = ltb-true (get_or words at 0) (length counts) (all-place (λ v. ltb v (length counts)) words 0 rows.inside at h)

  pub count-right : T (counted (get_or counts (get_or words at 0) (pos 0)))
  count-right = subst T (sym (all-place counted counts (pos 0) rows.right (get_or words at 0) word_below)) tt

-- what is written for an edge is what its step says
pub edge-turns : (counts : List ℤ) (row : List ℕ) → turns_written (step_of (count_at counts row 0) (count_at counts row 1)) ≡ edge_step counts row
unfolding turns_written step_of edge_step edge_masked
edge-turns counts row = go (masked (count_at counts row 0) || masked (count_at counts row 1))
  where
    go : (t : Bool) → turns_written (cond t steps.Masked (steps.Turns (turns (step_count (count_at counts row 0) (count_at counts row 1))))) ≡ cond t (turns (pos 0)) (turns (step_count (count_at counts row 0) (count_at counts row 1)))
    go true = refl
    go false = refl

pub edge-byte : (counts : List ℤ) (row : List ℕ) → byte_written (step_of (count_at counts row 0) (count_at counts row 1)) ≡ edge_byte counts row
unfolding byte_written step_of edge_byte edge_masked
edge-byte counts row = go (masked (count_at counts row 0) || masked (count_at counts row 1))
  where
    go : (t : Bool) → byte_written (cond t steps.Masked (steps.Turns (turns (step_count (count_at counts row 0) (count_at counts row 1))))) ≡ cond t 1 0
    go true = refl
    go false = refl

-- ---- one row of many, as a part of the words
module _ (n : ℕ) (words : List ℕ) (counts : List ℤ) (i : ℕ) (l : i < n) where
  module _ (rows : Rowed 2 n words counts) where
    fits-two : 2 * i + 2 ≤ length words
    fits-two = omega (arith, rows.sized)

    pub pair-part : take (2 * i + 2 - 2 * i) (drop (2 * i) words) ≡ pair_at words i
    unfolding pair_at
    pair-part =
        let m : 2 * i + 2 - 2 * i ≡ 2 = omega arith in
        rw (m, drop-cons words (2 * i) 0 (omega (arith, fits-two)), drop-cons words (suc (2 * i)) 0 (omega (arith, fits-two)), add-one (2 * i)) refl

    pub pair-rowed : Rowed 2 1 (pair_at words i) counts
    unfolding pair_at all_of
    pair-rowed = record {
      sized = refl;
      inside = let p = all-place (λ v. ltb v (length counts)) words 0 rows.inside in rw (p (2 * i) (omega (arith, fits-two)), p (2 * i + 1) (omega (arith, fits-two))) refl;
      right = rows.right;
    }

  module _ (rows : Rowed 3 n words counts) where
    fits-three : 3 * i + 3 ≤ length words
    fits-three = omega (arith, rows.sized)

    pub triple-part : take (3 * i + 3 - 3 * i) (drop (3 * i) words) ≡ triple_at words i
    unfolding triple_at
    triple-part =
        let m : 3 * i + 3 - 3 * i ≡ 3 = omega arith in
        let two : 3 * i + 2 ≡ suc (suc (3 * i)) = omega arith in
        rw (m, drop-cons words (3 * i) 0 (omega (arith, fits-three)), drop-cons words (suc (3 * i)) 0 (omega (arith, fits-three)), drop-cons words (suc (suc (3 * i))) 0 (omega (arith, fits-three)), add-one (3 * i), two) refl

    pub triple-rowed : Rowed 3 1 (triple_at words i) counts
    unfolding triple_at all_of
    triple-rowed = record {
      sized = refl;
      inside = let p = all-place (λ v. ltb v (length counts)) words 0 rows.inside in rw (p (3 * i) (omega (arith, fits-three)), p (3 * i + 1) (omega (arith, fits-three)), p (3 * i + 2) (omega (arith, fits-three))) refl;
      right = rows.right;
    }
