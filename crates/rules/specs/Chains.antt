-- Entries in chains, one for each bucket; b gives the bucket of an entry.
use Rattle.std.specs.Prelude.{◌≡◌, List, ℕ, suc, ◌≤◌, ◌<◌, length, get_or}

-- of the entries below m in bucket v, p is one more than the newest, or 0 where there is none
pub record Newest (b : ℕ → ℕ) (v m p : ℕ) : Type 0 where
  pub within : p ≤ m
  pub none : (i : ℕ) → p ≤ i → i < m → b i ≡ v → ⊥
  pub own : (i : ℕ) → p ≡ suc i → b i ≡ v

-- there is room for `room` entries, and each below n is followed by the next older one of its bucket
pub record Links (b : ℕ → ℕ) (room : ℕ) (next : List ℕ) (n : ℕ) : Type 0 where
  pub next_long : length next ≡ room
  pub most : n ≤ room
  pub older : (i : ℕ) → i < n → Newest b (b i) i (get_or next i 0)

-- n entries, all in the chain of their bucket, which begins at its head; there are `heads` buckets
pub record Chains (b : ℕ → ℕ) (heads room : ℕ) (head next : List ℕ) (n : ℕ) : Type 0 where
  pub links : Links b room next n
  pub head_long : length head ≡ heads
  pub newest : (v : ℕ) → v < heads → Newest b v n (get_or head v 0)
