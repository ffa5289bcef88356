-- Two outcomes that a contract of this crate allows are equal, where the result is more than one number or truth value.
use mathlib.Core.Path.{◌≡◌, sym, ◌∙◌}
use mathlib.Core.List.{List}
use Prim.Native.Nat.{ℕ}
use Rattle.book.specs.Numbers.{numbers}
use Rattle.book.specs.declared.Place.{Place}
use Rattle.book.specs.declared.Places.{Places}
use Rattle.book.proofs.Numbers.{numbers-same}

-- a place that is said by an equation
pub places-equal : (n : ℕ) (p q : Place) → p.0 ≡ n → q.0 ≡ n → p ≡ q
places-equal n p q e f = λ i. record { 0 = (e ∙ sym f) i }

-- all places
pub all-places-equal : (ns : List ℕ) (p q : Places) → numbers p.at ≡ ns → numbers q.at ≡ ns → p ≡ q
all-places-equal ns p q e f = λ i. record { at = numbers-same p.at q.at (e ∙ sym f) i }
