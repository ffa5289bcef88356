-- A run, pair by pair: one more that goes on, one that does not, and no pair left.
use mathlib.Core.Path.{◌≡◌, refl, ◌∙◌}
use mathlib.Core.Bool.{Bool, true, false, cond, ◌&&◌}
use mathlib.Core.List.{List, [], ◌∷◌}
use Prim.Native.Nat.{ℕ, suc, ◌+◌, ◌*◌, ◌≤◌, ◌<◌}
use native.Mathlib.Omega.{arith}
use lib.ListN.{length, get_or, drop, length-drop}
use lib.Seq.{drop-cons}
use lib.Dec.{eqb}
use borrow.Author.Tests.{eq-eqb, ne_eqb}
use Rattle.telling.specs.Runs.{goes_on, run_size}

-- fewer than two numbers are no pair
none_left : (c w : ℕ) (ps : List ℕ) → length ps ≤ 1 → goes_on c w ps ≡ 0
unfolding goes_on
none_left c w [] l = refl
none_left c w (d ∷ []) l = refl
none_left c w (d ∷ v ∷ ps) l = absurd (omega arith)

-- the pairs of a run are all there
goes-within : (c w : ℕ) (ps : List ℕ) → 2 * goes_on c w ps ≤ length ps
unfolding goes_on
goes-within c w [] = omega arith
goes-within c w (d ∷ []) = omega arith
goes-within c w (d ∷ v ∷ ps) = go (eqb d c && eqb v w) (goes_on (c + 1) w ps) (goes-within (c + 1) w ps)
  where
    go : (b : Bool) (n : ℕ) → 2 * n ≤ length ps → 2 * cond b (suc n) 0 ≤ length (d ∷ v ∷ ps)
    go true n l = omega arith
    go false n l = omega arith

-- ---- a pair that is there
module _ (c w : ℕ) (ps : List ℕ) (n : ℕ) (l : 2 * n + 1 < length ps) where
  -- pair n, and those behind it
  pair : drop (2 * n) ps ≡ get_or ps (2 * n) 0 ∷ get_or ps (2 * n + 1) 0 ∷ drop (2 * (n + 1)) ps
  pair =
      let e : suc (2 * n) ≡ 2 * n + 1 = omega arith in
      let g : suc (2 * n + 1) ≡ 2 * (n + 1) = omega arith in
      drop-cons ps (2 * n) 0 (omega arith) ∙ rw (e, drop-cons ps (2 * n + 1) 0 (omega arith), g)

  -- another number
  number-off : (get_or ps (2 * n) 0 ≡ c → ⊥) → goes_on c w (drop (2 * n) ps) ≡ 0
  unfolding goes_on
  number-off d = rw (pair, ne_eqb (get_or ps (2 * n) 0) c d)

  module _ (d : get_or ps (2 * n) 0 ≡ c) where
    -- another reason
    reason-off : (get_or ps (2 * n + 1) 0 ≡ w → ⊥) → goes_on c w (drop (2 * n) ps) ≡ 0
    unfolding goes_on
    reason-off v = rw (pair, eq-eqb (get_or ps (2 * n) 0) c d, ne_eqb (get_or ps (2 * n + 1) 0) w v)

    -- it goes on
    pair-on : get_or ps (2 * n + 1) 0 ≡ w → goes_on c w (drop (2 * n) ps) ≡ suc (goes_on (c + 1) w (drop (2 * (n + 1)) ps))
    unfolding goes_on
    pair-on v = rw (pair, eq-eqb (get_or ps (2 * n) 0) c d, eq-eqb (get_or ps (2 * n + 1) 0) w v)

-- ---- a run from number c on, for reason w, of which n pairs are known
module _ (c w : ℕ) (ps : List ℕ) (n : ℕ) (so_far : goes_on c w ps ≡ n + goes_on (c + n) w (drop (2 * n) ps)) where
  -- it ends where no pair is left
  pub run-all : length ps ≤ 2 * n + 1 → n ≡ goes_on c w ps
  run-all l = omega (arith, none_left (c + n) w (drop (2 * n) ps) (rw length-drop (omega arith)))

  module _ (l : 2 * n + 1 < length ps) where
    -- it ends where another number comes
    pub run-gap : (get_or ps (2 * n) 0 ≡ c + n → ⊥) → n ≡ goes_on c w ps
    run-gap d = omega (arith, number-off (c + n) w ps n l d)

    module _ (d : get_or ps (2 * n) 0 ≡ c + n) where
      -- it ends where another reason comes
      pub run-other : (get_or ps (2 * n + 1) 0 ≡ w → ⊥) → n ≡ goes_on c w ps
      run-other v = omega (arith, reason-off (c + n) w ps n l d v)

      -- else it goes on
      pub run_on : get_or ps (2 * n + 1) 0 ≡ w → goes_on c w ps ≡ n + 1 + goes_on (c + (n + 1)) w (drop (2 * (n + 1)) ps)
      run_on v =
          let e : c + n + 1 ≡ c + (n + 1) = omega arith in
          omega (arith, rw e at (pair-on (c + n) w ps n l d v))

-- ---- the run that the pairs begin with
-- nothing is known of it yet
pub run-begins : (c w : ℕ) (ps : List ℕ) → goes_on c w ps ≡ 0 + goes_on (c + 0) w (drop (2 * 0) ps)
run-begins c w ps =
    let e : c + 0 ≡ c = omega arith in
    let g : goes_on (c + 0) w ps ≡ goes_on c w ps = rw e in
    omega arith

-- it has a pair
pub run-some : (ps : List ℕ) → 2 ≤ length ps → 0 < run_size ps
unfolding run_size goes_on
run-some [] l = absurd (omega arith)
run-some (d ∷ []) l = absurd (omega arith)
run-some (d ∷ v ∷ ps) l = rw (eq-eqb d d refl, eq-eqb v v refl) (omega arith)

-- all of its pairs are there
pub run-within : (ps : List ℕ) → 2 * run_size ps ≤ length ps
unfolding run_size
run-within ps = goes-within (get_or ps 0 0) (get_or ps 1 0) ps

-- so of k numbers, two or more, it has a pair or more and no more than half as many
pub run-held : (ps : List ℕ) {n k : ℕ} → n ≡ run_size ps → length ps ≡ k → 2 ≤ k → (0 < n) × (2 * n ≤ k)
run-held ps e g l = (omega (arith, run-some ps (rw g l)), omega (arith, run-within ps))
