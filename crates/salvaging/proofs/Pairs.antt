-- Pairs one after another: one cell more, and how they stand at the front of a list.
use mathlib.Core.Path.{◌≡◌, refl, ap, ◌∙◌}
use mathlib.Core.Bool.{Bool, true, false, cond, not}
use mathlib.Core.List.{List, [], ◌∷◌, ◌++◌, map, map-append}
use Prim.Native.Nat.{ℕ, zero, suc, ◌+◌, ◌*◌, ◌≤◌, ◌<◌}
use native.Mathlib.Numerals.{add-one}
use native.Mathlib.Omega.{arith}
use lib.ListN.{length, get_or, length-append}
use lib.Dec.{eqb}
use Rattle.rules.specs.Lists.{up_to, keep, joined}
use Rattle.rules.specs.Salvage.{why, dropped_of, pairs_of}
use Rattle.rules.proofs.First.{keep-last}
use Rattle.rules.proofs.Relation.{joined-append}
use Rattle.salvaging.specs.Listed.{pair_of, pairs_by, pairs_in}

-- a pair has two numbers, or none
pub pair-most : (c n : ℕ) → length (pair_of c n) ≤ 2
unfolding pair_of
pair-most c n = go (eqb n 0)
  where
    go : (b : Bool) → length (cond b [] (c ∷ n ∷ [])) ≤ 2
    go true = omega arith
    go false = omega arith

module _ (by : ℕ → ℕ) where
  last-pair : (n : ℕ) → joined (map (λ c. c ∷ by c ∷ []) (cond (not (eqb (by n) 0)) (n ∷ []) [])) ≡ pair_of n (by n)
  unfolding pair_of joined
  last-pair n = go (eqb (by n) 0)
    where
      go : (b : Bool) → joined (map (λ c. c ∷ by c ∷ []) (cond (not b) (n ∷ []) [])) ≡ cond b [] (n ∷ by n ∷ [])
      go true = refl
      go false = refl

  -- one cell more
  pub pairs-more : (n : ℕ) → pairs_by by (n + 1) ≡ pairs_by by n ++ pair_of n (by n)
  unfolding pairs_by
  pairs-more n =
      rw (add-one n, keep-last (λ c. not (eqb (by c) 0)) n, map-append, joined-append)
      (ap (λ (r : List ℕ). joined (map (λ c. c ∷ by c ∷ []) (keep (λ c. not (eqb (by c) 0)) (up_to n))) ++ r) (last-pair n))

  -- they are at most two numbers a cell
  pub pairs-most : (n : ℕ) → length (pairs_by by n) ≤ 2 * n
  pairs-most zero = unfold pairs_by keep joined up_to in omega arith
  pairs-most (suc n) = rw (← add-one n, pairs-more n, length-append) (omega (arith, pairs-most n, pair-most n (by n)))

-- they are those of the file, where each cell's number is
pub pairs-agree : (one other : ℕ → ℕ) (n : ℕ) → ((c : ℕ) → c < n → one c ≡ other c) → pairs_by one n ≡ pairs_by other n
pairs-agree one other zero h = unfold pairs_by keep joined up_to in refl
pairs-agree one other (suc n) h =
    rw (← add-one n, pairs-more one n, pairs-more other n, pairs-agree one other n (λ c l. h c (omega arith)), h n (omega arith))

pub pairs-file : (f whys : List ℕ) (n : ℕ) → ((c : ℕ) → c < n → get_or whys c 0 ≡ why f c) → pairs_in whys n ≡ pairs_of f n
pairs-file f whys n h = unfold pairs_in in pairs-agree (λ c. get_or whys c 0) (why f) n h ∙ unfold pairs_by pairs_of dropped_of in refl
