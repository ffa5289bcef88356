-- How many bytes are fetched for a field: at most three for 13 bits, and some counts by hand.
use mathlib.Core.Path.{◌≡◌, refl}
use Prim.Native.Nat.{ℕ, zero, suc, ◌+◌, ◌/◌, ◌%◌, ◌≤◌, ◌<◌}
use native.Mathlib.Omega.{arith}
use Rattle.bits.specs.Fetches.{there, touched, fetches}

-- one byte more
pub there-more : (all at k : ℕ) → there all at k + there all (at + k) 1 ≡ there all at (k + 1)
unfolding there
there-more all at k = omega arith

-- the bytes that have a bit of a field, from the place of its first bit in a byte
pub touched-is : (i w : ℕ) → 0 < w → touched i w ≡ (i % 8 + w + 7) / 8
unfolding touched
touched-is i zero l = absurd (omega arith)
touched-is i (suc w) l = omega arith

touched-most : (i w : ℕ) → touched i w ≤ (w + 14) / 8
unfolding touched
touched-most i zero = omega arith
touched-most i (suc w) = omega arith

-- at most three fetches for a field of 13 bits, and five for one of 32
pub three-at-most : (all i w : ℕ) → w ≤ 13 → fetches all i w ≤ 3
unfolding fetches there
three-at-most all i w l = omega (arith, touched-most i w)

pub five-at-most : (all i w : ℕ) → w ≤ 32 → fetches all i w ≤ 5
unfolding fetches there
five-at-most all i w l = omega (arith, touched-most i w)

-- by hand: the first 32 bits; 13 bits that end with a byte, that end two bytes later, at the end of the bytes, past it; 32 bits that do not start with a byte; no bits
pub counts-hold : (fetches 19 0 32 ≡ 4) × ((fetches 19 35 13 ≡ 2) × ((fetches 19 37 13 ≡ 3) × ((fetches 6 37 13 ≡ 2) × ((fetches 4 37 13 ≡ 0) × ((fetches 19 33 32 ≡ 5) × (fetches 19 37 0 ≡ 0))))))
unfolding fetches there touched
counts-hold = (refl, (refl, (refl, (refl, (refl, (refl, refl))))))
