-- What a word has room for: powers of two, a field, and bits of a byte at their weight.
use mathlib.Core.List.{List}
use Prim.Native.Nat.{ℕ, ◌+◌, ◌*◌, ◌/◌, ◌%◌, ◌^◌, ◌≤◌, ◌<◌}
use native.Mathlib.Nat.{pow-le-pow_right, mul-le-mul_right, mod-le, mod-lt, div-mul-le_self}
use native.Mathlib.Omega.{arith}
use Rattle.rules.specs.File.{field}
use Rattle.rules.proofs.Fields.{field_below}
use Rattle.rules.proofs.Masks.{pow_pos}

pub weight-most : (k m : ℕ) → k ≤ m → (0 < 2 ^ k) × (2 ^ k ≤ 2 ^ m)
weight-most k m l = (pow_pos k, pow-le-pow_right {n = 2} (omega arith) {i = k} {j = m} l)

-- a field of at most m bits
pub field-most : (f : List ℕ) (i w m : ℕ) → w ≤ m → field f i w < 2 ^ m
field-most f i w m l = omega (arith, field_below f i w, weight-most w m l)

-- bits of v, at their weight
pub part-below : (v p m : ℕ) → v / p % m * p ≤ v
part-below v p m = omega (arith, mul-le-mul_right p (mod-le (v / p) m), div-mul-le_self v p)

-- the low n bits of x, at a weight
pub part-most : (x k n : ℕ) → k + n ≤ 8 → x % 2 ^ n * 2 ^ k < 2 ^ 32
part-most x k n l =
    let h : x % 2 ^ n ≤ 2 ^ 8 = omega (arith, mod-lt x (pow_pos n), weight-most n 8 (omega arith)) in
    omega (arith, mul-le-mul_right (2 ^ k) h, weight-most k 8 (omega arith))
