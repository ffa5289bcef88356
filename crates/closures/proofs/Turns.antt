-- The floats of whole counts of 65,536ths of a turn: each is exact, and their sums, differences and order are those of the counts.
use mathlib.Core.Path.{◌≡◌, refl, sym, ap, ◌∙◌, subst}
use mathlib.Core.Bool.{Bool, true, false, not, cond, true≢false}
use Prim.Native.Nat.{ℕ, zero, suc, ◌+◌, ◌-◌, ◌*◌, ◌^◌, ◌≤◌, ◌<◌}
use native.Mathlib.Nat.{mul_assoc, lt_of_lt_of_le, le_of_lt, add-zero, sub-zero}
use native.Mathlib.Omega.{arith}
use lib.Dec.{ltb, lit≤, lit<, leb-suc-suc}
use lib.Pow.{shl_lt}
use lib.IntN.{ℤ, pos, negsuc, nat_abs, ◌+ℤ◌, ◌-ℤ◌}
use lib.Signed.{lt_z}
use borrow.Author.Tests.{ltb-true, ltb-false, lt-ltb, le-ltb}
use lib.Ieee.{Float, fin, binary64, below, round, sum, add, sub, div, lt, of_int, of_bits}
use lib.Ieee.Exact.{HasValue, round_exact}
use lib.Ieee.Back.{round_whole}
use Rattle.rules.specs.Phases.{turns}
use Rattle.floats.proofs.Fractions.{add-values, sub-values, lt-values, div_value}

-- whether a count is below 0
abbrev pub negative : ℤ → Bool
negative (pos n) = false
negative (negsuc n) = true

-- the float is exactly the count over 65,536, and 0 is +0.0
abbrev pub Value : Float → ℤ → Type 0
Value x k = HasValue x (negative k) (nat_abs k) 65536

-- a count that a 64-bit float holds
abbrev pub Small : ℤ → Type 0
Small k = nat_abs k < 2 ^ 53

-- ==== each is exact
exact : (s : Bool) (n : ℕ) → n < 2 ^ 53 → HasValue (round binary64 s n 65536) s n 65536
exact s n h = round_exact binary64 s n 65536 n 1058 (lit< tt) h (lt_of_lt_of_le (shl_lt 53 1058 h) (lit≤ tt)) (sym (mul_assoc n (2 ^ 1058) 65536))

pub turns-exact : (k : ℤ) → Small k → Value (turns k) k
unfolding turns
turns-exact (pos n) h = exact false n h
turns-exact (negsuc n) h = exact true (suc n) h

-- none is −0.0: the sign is set for counts below 0 alone
minus-none : (x : Float) (k : ℤ) → Value x k → x ≡ of_bits binary64 0x8000_0000_0000_0000 → ⊥
unfolding of_bits
minus-none x (pos n) v e = true≢false (subst (λ (y : Float). Value y (pos n)) e v).0
minus-none x (negsuc n) v e = let h : 0 ≡ suc n * 1 = (subst (λ (y : Float). Value y (negsuc n)) e v).1 in omega arith

pub never-minus-none : (k : ℤ) → Small k → turns k ≡ of_bits binary64 0x8000_0000_0000_0000 → ⊥
never-minus-none k h = minus-none (turns k) k (turns-exact k h)

-- ==== sums
abbrev added : ℤ → ℤ → Float
added k j = sum binary64 (negative k) (nat_abs k) (negative j) (nat_abs j) 65536

-- the numbers that the sum's cases ask for
one_less : (a b : ℕ) → a < b → b - a ≡ suc (b - suc a)
one_less a b h = omega arith

both-none : (a b : ℕ) → b ≤ a → a ≤ b → a - b ≡ b - a
both-none a b h k = omega arith

not-both : (a b : ℕ) → a < b → b < a → ⊥
not-both a b h k = omega arith

two-more : (a b : ℕ) → suc a + suc b ≡ suc (suc (a + b))
two-more a b = omega arith

sum-turns : (k j : ℤ) → added k j ≡ turns (k +ℤ j)
unfolding sum turns
sum-turns (pos a) (pos b) = refl
sum-turns (pos a) (negsuc b) = go (ltb a (suc b)) refl
  where
    go : (t : Bool) → ltb a (suc b) ≡ t → cond t (round binary64 true (suc b - a) 65536) (round binary64 false (a - suc b) 65536) ≡ turns (cond t (negsuc (suc b - suc a)) (pos (a - suc b)))
    go true e = ap (λ (n : ℕ). round binary64 true n 65536) (one_less a (suc b) (ltb-true a (suc b) e))
    go false e = refl
sum-turns (negsuc a) (pos b) = go (ltb (suc a) b) (ltb b (suc a)) refl refl
  where
    go : (t u : Bool) → ltb (suc a) b ≡ t → ltb b (suc a) ≡ u
        → cond t (round binary64 false (b - suc a) 65536) (round binary64 u (suc a - b) 65536) ≡ turns (cond u (negsuc (suc a - suc b)) (pos (b - suc a)))
    go true true e g = absurd (not-both (suc a) b (ltb-true (suc a) b e) (ltb-true b (suc a) g))
    go true false e g = refl
    go false true e g = ap (λ (n : ℕ). round binary64 true n 65536) (one_less b (suc a) (ltb-true b (suc a) g))
    go false false e g = ap (λ (n : ℕ). round binary64 false n 65536) (both-none (suc a) b (ltb-false (suc a) b e) (ltb-false b (suc a) g))
sum-turns (negsuc a) (negsuc b) = ap (λ (n : ℕ). round binary64 true n 65536) (two-more a b)

-- a sum is rounded to the sum of the counts, whatever its size
pub add-turns : (x y : Float) (k j : ℤ) → Value x k → Value y j → add binary64 x y ≡ turns (k +ℤ j)
add-turns x y k j h g = add-values binary64 x y (negative k) (negative j) (nat_abs k) (nat_abs j) 65536 (lit< tt) h g ∙ sum-turns k j

same-again : (a : ℕ) → suc a + 0 ≡ suc (suc a - 1)
same-again a = omega arith

-- ==== differences: −0.0 for a 0 that is taken away changes nothing
sum_less : (k j : ℤ) → sum binary64 (negative k) (nat_abs k) (not (negative j)) (nat_abs j) 65536 ≡ turns (k -ℤ j)
unfolding sum turns
sum_less k (pos (suc b)) = sum-turns k (negsuc b)
sum_less k (negsuc b) = sum-turns k (pos (suc b))
sum_less (pos a) (pos zero) = rw (le-ltb a 0 (omega arith), sub-zero, add-zero)
sum_less (negsuc a) (pos zero) = rw (lt-ltb 0 (suc a) (omega arith)) (ap (λ (n : ℕ). round binary64 true n 65536) (same-again a))

pub sub-turns : (x y : Float) (k j : ℤ) → Value x k → Value y j → sub binary64 x y ≡ turns (k -ℤ j)
sub-turns x y k j h g = sub-values binary64 x y (negative k) (negative j) (nat_abs k) (nat_abs j) 65536 (lit< tt) h g ∙ sum_less k j

-- ==== order
pub lt-turns : (x y : Float) (k j : ℤ) → Value x k → Value y j → lt x y ≡ lt_z k j
lt-turns x y k j h g = lt-values x y (negative k) (negative j) (nat_abs k) (nat_abs j) 65536 (lit< tt) h g ∙ signs k j
  where
    signs : (k j : ℤ) → below (negative k) (nat_abs k) (negative j) (nat_abs j) ≡ lt_z k j
    signs (pos a) (pos b) = refl
    signs (pos a) (negsuc b) = refl
    signs (negsuc a) (pos b) = lt-ltb 0 (suc a + b) (omega arith)
    signs (negsuc a) (negsuc b) = leb-suc-suc (suc b) a

-- ==== a count over 65,536
pub div-turns : (k : ℤ) → Small k → div binary64 (of_int binary64 k) (fin false 1 (pos 16)) ≡ turns k
unfolding of_int turns
div-turns (pos n) h = div_value binary64 (round binary64 false n 1) false n 16 (round_whole binary64 false n (le_of_lt h))
div-turns (negsuc n) h = div_value binary64 (round binary64 true (suc n) 1) true (suc n) 16 (round_whole binary64 true (suc n) (le_of_lt h))
