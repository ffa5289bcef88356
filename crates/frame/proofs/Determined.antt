-- Two outcomes that a contract of this crate allows are equal, where the result is more than one number or truth value.
use mathlib.Core.Path.{◌≡◌, sym, ◌∙◌}
use mathlib.Core.List.{List}
use Prim.Native.Nat.{ℕ}
use Rattle.frame.specs.declared.Needs.{Needs}

-- the needs of a relation
pub needs-equal : (ns : List ℕ) (n : ℕ) (p q : Needs) → (p.keys ≡ ns) × (p.count ≡ n) → (q.keys ≡ ns) × (q.count ≡ n) → p ≡ q
needs-equal ns n p q e f = λ i. record { keys = (e.0 ∙ sym f.0) i; count = (e.1 ∙ sym f.1) i }
