-- The test of Intersection reads the words that it asks for and no others.
use mathlib.Core.Path.{◌≡◌}
use mathlib.Core.List.{List}
use Prim.Native.Nat.{ℕ, ◌+◌, ◌≤◌, ◌<◌}
use native.Mathlib.Omega.{arith}
use lib.ListN.{length, take}
use Rattle.rules.proofs.Slices.{part-front}
use Rattle.relations.specs.Words.{part, Rows}
use Rattle.relations.proofs.Placed.{rows-front, row_at-front}
use Rattle.intersecting.specs.Inner.{lies_in, Asked}

-- a row lies in the same words where these begin alike
pub lies_in-front : (vs ws : List ℕ) (k : ℕ) → take k vs ≡ take k ws → {at n : ℕ} → Rows ws at n k → (a m : ℕ) → a + m ≤ k → (i : ℕ) → i < n
    → lies_in vs at n a m i ≡ lies_in ws at n a m i
unfolding lies_in part
lies_in-front vs ws k e r a m l i h = rw (row_at-front vs ws k e r i h, part-front vs ws k e a m l)

-- what the test asks, and what it says, is the same in words that begin alike
module _ (vs ws : List ℕ) (k : ℕ) (e : take k vs ≡ take k ws) {at n a m b : ℕ} where
  pub asked-front : k ≤ length vs → Asked ws at n a m k b → Asked vs at n a m (length vs) b
  asked-front l q = record { rows = rows-front vs ws k e q.rows (length vs) l; few = q.few; part = omega (arith, q.part) }

  pub lies_in-same : Asked ws at n a m k b → (j : ℕ) → j < b → lies_in vs at n a m j ≡ lies_in ws at n a m j
  lies_in-same q j l = lies_in-front vs ws k e q.rows a m q.part j (omega (arith, q.few))
