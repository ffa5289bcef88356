-- Two numbers compared: the cases.
use mathlib.Core.Path.{◌≡◌}
use mathlib.Core.Logic.{◌⊎◌, inl, inr}
use Prim.Native.Nat.{ℕ, ◌≤◌, ◌<◌}
use native.Mathlib.Decide.{ℕ_discrete, dec_lt}
use native.Mathlib.Omega.{arith}

pub same_or_not : (i k : ℕ) → (i ≡ k) ⊎ (i ≡ k → ⊥)
same_or_not i k = elim (ℕ_discrete i k) [ yes e ↦ inl e | no d ↦ inr d ]

pub lt-or-le : (i k : ℕ) → (i < k) ⊎ (k ≤ i)
lt-or-le i k = elim (dec_lt i k) [ yes l ↦ inl l | no d ↦ inr (omega arith) ]

pub order : (i k : ℕ) → (i ≡ k) ⊎ ((i < k) ⊎ (k < i))
order i k = elim (dec_lt i k) [ yes l ↦ inr (inl l) | no d ↦ elim (dec_lt k i) [ yes l ↦ inr (inr l) | no c ↦ inl (omega arith) ] ]
