-- How many bytes are fetched for a field: each byte that has a bit of it, and is there, once.
use Rattle.std.specs.Prelude.{◌≡◌, List, ℕ, zero, suc, ◌+◌, ◌-◌, ◌*◌, ◌/◌, length}
use Rattle.rules.specs.File.{field}

-- of n bytes from a place on, those that are there where there are `all` bytes
unfoldable pub there : ℕ → ℕ → ℕ → ℕ
there all at n = n - (at + n - all)

-- the bytes that have a bit of the field of w bits from bit i on: from that of its first bit to that of its last
unfoldable pub touched : ℕ → ℕ → ℕ
touched i zero = 0
touched i (suc w) = (i + w) / 8 - i / 8 + 1

-- the fetches that the field takes
unfoldable pub fetches : ℕ → ℕ → ℕ → ℕ
fetches all i w = there all (i / 8) (touched i w)

-- a number is the first n bytes from a place on, and so many of them were fetched as are there
pub record Window (bytes : List ℕ) (at n value count : ℕ) : Type 0 where
  pub number : value ≡ field bytes (8 * at) (8 * n)
  pub counted : count ≡ there (length bytes) at n

-- a number is the field of w bits from bit i on, and it took so many fetches
pub record Read (bytes : List ℕ) (i w value count : ℕ) : Type 0 where
  pub number : value ≡ field bytes i w
  pub counted : count ≡ fetches (length bytes) i w
