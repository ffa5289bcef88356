-- Integers as differences of two numbers, a − b: sums, negatives, order and equality are those of numbers.
use mathlib.Core.Path.{◌≡◌, refl, sym, ap, ap₂, ◌∙◌}
use mathlib.Core.Logic.{inl, inr}
use Prim.Native.Nat.{ℕ, zero, suc, ◌+◌, ◌-◌, ◌≤◌, ◌<◌}
use native.Mathlib.Omega.{arith}
use lib.Dec.{ltb}
use lib.IntN.{ℤ, pos, negsuc, nat_abs, neg_ℤ, sub_ℕ, ◌+ℤ◌, ◌-ℤ◌}
use lib.Signed.{lt_z}
use borrow.Author.Tests.{ltb-true, lt-ltb, le-ltb}
use Rattle.rules.proofs.Compared.{lt-or-le}
use Rattle.rules.proofs.Tests.{agree}

-- a − b, below 0 or not
pub less-neg : (a b : ℕ) → a < b → sub_ℕ a b ≡ negsuc (b - suc a)
less-neg a b h = rw (lt-ltb a b h)

pub less-pos : (a b : ℕ) → b ≤ a → sub_ℕ a b ≡ pos (a - b)
less-pos a b h = rw (le-ltb a b h)

-- ==== equality
pub less-same : (a b c d : ℕ) → a + d ≡ c + b → sub_ℕ a b ≡ sub_ℕ c d
less-same a b c d e = elim (lt-or-le a b) [
  | inl h ↦ less-neg a b h ∙ ap negsuc (omega arith) ∙ sym (less-neg c d (omega arith))
  | inr h ↦ less-pos a b h ∙ ap pos (omega arith) ∙ sym (less-pos c d (omega arith))
]

pub less_none : (a b : ℕ) → sub_ℕ a b ≡ pos 0 → a ≡ b
less_none a b e = elim (lt-or-le a b) [
  | inl h ↦ absurd (below (b - suc a) (sym (less-neg a b h) ∙ e))
  | inr h ↦ let n : a - b ≡ 0 = ap nat_abs (sym (less-pos a b h) ∙ e) in omega arith
]
  where
    below : (n : ℕ) → negsuc n ≡ pos 0 → ⊥
    below n q = absurd (omega (arith, ap nat_abs q))

-- ==== sums
neg-neg : (a b c d : ℕ) → a < b → c < d → suc ((b - suc a) + (d - suc c)) ≡ b + d - suc (a + c)
neg-neg a b c d h k = omega arith

pos-pos : (a b c d : ℕ) → b ≤ a → d ≤ c → (a - b) + (c - d) ≡ a + c - (b + d)
pos-pos a b c d h k = omega arith

mixed : (a b c d : ℕ) → a < b → d ≤ c → (c - d) + (b + d) ≡ a + c + suc (b - suc a)
mixed a b c d h k = omega arith

mixed' : (a b c d : ℕ) → b ≤ a → c < d → (a - b) + (b + d) ≡ a + c + suc (d - suc c)
mixed' a b c d h k = omega arith

pub less-add : (a b c d : ℕ) → sub_ℕ a b +ℤ sub_ℕ c d ≡ sub_ℕ (a + c) (b + d)
less-add a b c d = elim (lt-or-le a b) [
  | inl h ↦ elim (lt-or-le c d) [
    | inl k ↦ ap₂ (λ (x y : ℤ). x +ℤ y) (less-neg a b h) (less-neg c d k) ∙ ap negsuc (neg-neg a b c d h k) ∙ sym (less-neg (a + c) (b + d) (omega arith))
    | inr k ↦ ap₂ (λ (x y : ℤ). x +ℤ y) (less-neg a b h) (less-pos c d k) ∙ less-same (c - d) (suc (b - suc a)) (a + c) (b + d) (mixed a b c d h k)
  ]
  | inr h ↦ elim (lt-or-le c d) [
    | inl k ↦ ap₂ (λ (x y : ℤ). x +ℤ y) (less-pos a b h) (less-neg c d k) ∙ less-same (a - b) (suc (d - suc c)) (a + c) (b + d) (mixed' a b c d h k)
    | inr k ↦ ap₂ (λ (x y : ℤ). x +ℤ y) (less-pos a b h) (less-pos c d k) ∙ ap pos (pos-pos a b c d h k) ∙ sym (less-pos (a + c) (b + d) (omega arith))
  ]
]

-- ==== negatives
pub less-turned : (a b : ℕ) → neg_ℤ (sub_ℕ a b) ≡ sub_ℕ b a
less-turned a b = elim (lt-or-le a b) [
  | inl h ↦ ap neg_ℤ (less-neg a b h) ∙ ap pos (one_less a b h) ∙ sym (less-pos b a (omega arith))
  | inr h ↦ ap neg_ℤ (less-pos a b h) ∙ back (a - b) h refl
]
  where
    one_less : (a b : ℕ) → a < b → suc (b - suc a) ≡ b - a
    one_less a b h = omega arith

    none : b ≤ a → a - b ≡ 0 → b - a ≡ 0
    none h e = omega arith

    some : (n : ℕ) → a - b ≡ suc n → a - suc b ≡ n
    some n e = omega arith

    back : (n : ℕ) → b ≤ a → a - b ≡ n → neg_ℤ (pos n) ≡ sub_ℕ b a
    back zero h e = sym (less-pos b a (omega arith) ∙ ap pos (none h e))
    back (suc n) h e = sym (less-neg b a (omega arith) ∙ ap negsuc (some n e))

pub less-less : (a b c d : ℕ) → sub_ℕ a b -ℤ sub_ℕ c d ≡ sub_ℕ (a + d) (b + c)
less-less a b c d = ap (λ (x : ℤ). sub_ℕ a b +ℤ x) (less-turned c d) ∙ less-add a b d c

-- ==== order
pub less-lt : (a b c d : ℕ) → lt_z (sub_ℕ a b) (sub_ℕ c d) ≡ ltb (a + d) (c + b)
less-lt a b c d = elim (lt-or-le a b) [
  | inl h ↦ elim (lt-or-le c d) [
    | inl k ↦ ap₂ (λ (x y : ℤ). lt_z x y) (less-neg a b h) (less-neg c d k) ∙ agree (ltb (d - suc c) (b - suc a)) (ltb (a + d) (c + b)) (λ t. lt-ltb (a + d) (c + b) (omega (arith, ltb-true (d - suc c) (b - suc a) t))) (λ t. lt-ltb (d - suc c) (b - suc a) (omega (arith, ltb-true (a + d) (c + b) t)))
    | inr k ↦ ap₂ (λ (x y : ℤ). lt_z x y) (less-neg a b h) (less-pos c d k) ∙ sym (lt-ltb (a + d) (c + b) (omega arith))
  ]
  | inr h ↦ elim (lt-or-le c d) [
    | inl k ↦ ap₂ (λ (x y : ℤ). lt_z x y) (less-pos a b h) (less-neg c d k) ∙ sym (le-ltb (a + d) (c + b) (omega arith))
    | inr k ↦ ap₂ (λ (x y : ℤ). lt_z x y) (less-pos a b h) (less-pos c d k) ∙ agree (ltb (a - b) (c - d)) (ltb (a + d) (c + b)) (λ t. lt-ltb (a + d) (c + b) (omega (arith, ltb-true (a - b) (c - d) t))) (λ t. lt-ltb (a - b) (c - d) (omega (arith, ltb-true (a + d) (c + b) t)))
  ]
]
