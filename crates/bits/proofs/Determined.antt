-- Two outcomes that a contract of this crate allows are equal.
use mathlib.Core.Path.{◌≡◌, sym, ◌∙◌}
use mathlib.Core.List.{List}
use Prim.Native.Nat.{ℕ}
use Rattle.rules.specs.File.{field, with_field}

-- a field that is read
pub fields-equal : (bytes : List ℕ) (bit width r s : ℕ) → r ≡ field bytes bit width → s ≡ field bytes bit width → r ≡ s
fields-equal bytes bit width r s e f = e ∙ sym f

-- the bytes after a field is written
pub written-equal : (bytes : List ℕ) (bit width value : ℕ) (bs cs : List ℕ) → bs ≡ with_field bytes bit width value → cs ≡ with_field bytes bit width value → bs ≡ cs
written-equal bytes bit width value bs cs e f = e ∙ sym f
