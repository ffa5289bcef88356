-- Bits of a byte replaced.
use Rattle.std.specs.Prelude.{ℕ, ◌+◌, ◌-◌, ◌*◌, ◌/◌, ◌%◌, ◌^◌}

-- v with its n bits from weight 2^k up replaced by the low n bits of x
unfoldable pub patched : ℕ → ℕ → ℕ → ℕ → ℕ
patched v k n x = v - v / 2 ^ k % 2 ^ n * 2 ^ k + x % 2 ^ n * 2 ^ k
