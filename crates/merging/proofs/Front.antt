-- The rows of d→d, and what a merge asks of its sources, are read alike from two books that agree before dst.
use mathlib.Core.Path.{◌≡◌, refl, ap}
use mathlib.Core.Bool.{Bool, true, not, ◌&&◌, ◌||◌}
use mathlib.Core.List.{List, [], ◌∷◌}
use Prim.Native.Nat.{ℕ, ◌≤◌, ◌<◌}
use lib.ListN.{length, take}
use lib.Dec.{eqb, ltb}
use borrow.Author.Tests.{ltb-true}
use Rattle.rules.specs.Lists.{any_of, all_of, has}
use Rattle.rules.specs.Made.{listed_at}
use Rattle.rules.proofs.Tests.{left, right}
use Rattle.rules.proofs.First.{keep_same, keep-length}
use Rattle.relations.specs.Words.{row_at}
use Rattle.merging.specs.Near.{near_row, Through, Incidence}
use Rattle.relations.proofs.Placed.{rows-front, row_at-front}

-- ---- the rows of d→d
-- j is listed at x of some row, whichever of two alike tables has the rows
pub listed_at-same : (r q : ℕ → List ℕ) (v : ℕ) → ((w : ℕ) → w < v → r w ≡ q w) → (xs : List ℕ) → all_of (λ w. ltb w v) xs ≡ true → (j : ℕ)
    → listed_at r xs j ≡ listed_at q xs j
unfolding listed_at any_of all_of
listed_at-same r q v h [] t j = refl
listed_at-same r q v h (x ∷ xs) t j =
    let one : r x ≡ q x = h x (ltb-true x v (left (ltb x v) (all_of (λ w. ltb w v) xs) t)) in
    let rest : listed_at r xs j ≡ listed_at q xs j = listed_at-same r q v h xs (right (ltb x v) (all_of (λ w. ltb w v) xs) t) j in
    rw one (ap (λ (b : Bool). has j (q x) || b) rest)

module _ (vs ws : List ℕ) (m : ℕ) (e : take m vs ≡ take m ws) (own n back v : ℕ) (c : Through ws own n back v m) where
  pub through-front : (k : ℕ) → m ≤ k → Through vs own n back v k
  through-front k l = record {
    owned = rows-front vs ws m e c.owned k l;
    backed = rows-front vs ws m e c.backed k l;
    below = λ i h. rw (row_at-front vs ws m e c.owned i h) (c.below i h);
    ascend = λ w h. rw (row_at-front vs ws m e c.backed w h) (c.ascend w h);
  }

  pub near_row-front : (i : ℕ) → i < n → near_row vs own n back v i ≡ near_row ws own n back v i
  unfolding near_row
  near_row-front i h =
      rw (row_at-front vs ws m e c.owned i h)
      (keep_same _ _ n
      (λ j l.
      ap (λ (b : Bool). not (eqb j i) && b)
      (listed_at-same (row_at vs back v) (row_at ws back v) v (row_at-front vs ws m e c.backed) (row_at ws own n i) (c.below i h) j)))

pub incidence-front : (vs ws : List ℕ) (m : ℕ) → take m vs ≡ take m ws → (own n back v : ℕ) → Incidence ws own n back v m → (k : ℕ) → m ≤ k → Incidence vs own n back v k
incidence-front vs ws m e own n back v c k l = record {
  through = through-front vs ws m e own n back v c.through k l;
  few = λ i h. rw (row_at-front vs ws m e c.through.owned i h) (c.few i h);
}

pub length-near_row : (ws : List ℕ) (own n back v i : ℕ) → length (near_row ws own n back v i) ≤ n
unfolding near_row
length-near_row ws own n back v i = keep-length (λ j. not (eqb j i) && listed_at (row_at ws back v) (row_at ws own n i) j) n
