-- Products of the code that fit 64 bits.
use Prim.Native.Nat.{ℕ, ◌*◌, ◌^◌, ◌≤◌}
use native.Mathlib.Nat.{mul-le-mul}
use native.Mathlib.Omega.{arith}

-- a number of up to 40 bits times one of up to 16
pub product-below : (a n : ℕ) → a ≤ 2 ^ 40 → n ≤ 2 ^ 16 → a * n ≤ 2 ^ 56
product-below a n h l = omega (arith, mul-le-mul h l)

-- a number of up to 4 times one of up to 32 bits
pub place-below : (d c : ℕ) → d ≤ 4 → c ≤ 2 ^ 32 → d * c ≤ 2 ^ 34
place-below d c h l = omega (arith, mul-le-mul h l)
