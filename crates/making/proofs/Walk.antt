-- The key to make next, step by step: a search among the needs, and every key on the way is below 16.
use mathlib.Core.Path.{◌≡◌, refl, sym}
use mathlib.Core.Bool.{Bool, true, false, cond, not, true≢false}
use mathlib.Core.List.{List, [], ◌∷◌}
use Prim.Native.Nat.{ℕ, zero, suc, ◌+◌, ◌-◌, ◌*◌, ◌/◌, ◌%◌, ◌≤◌, ◌<◌}
use native.Mathlib.Omega.{arith}
use lib.Dec.{ltb}
use native.Mathlib.Decide.{ℕ_discrete}
use borrow.Author.Tests.{lt-ltb, ltb-true}
use Rattle.std.specs.Prelude.{Option, None, Some}
use Rattle.std.specs.Option.{unwrap_or, option_map}
use Rattle.std.specs.List.{find}
use Rattle.rules.specs.Lists.{all_of}
use Rattle.rules.specs.Book.{key, needs}
use Rattle.rules.specs.Steps.{first_off, onward, next_key}
use Rattle.rules.proofs.Tests.{left, right}
use Rattle.rules.proofs.Needs.{Kind, set, up, down, level, points, kind, needs-cells, needs-build, needs-up, needs-down, needs-across, needs-vertices}

-- a test, from its opposite
pub was-on : (b : Bool) → not b ≡ false → b ≡ true
was-on true q = refl
was-on false q = absurd (true≢false q)

pub was-off : (b : Bool) → not b ≡ true → b ≡ false
was-off true q = absurd (true≢false (sym q))
was-off false q = refl

-- ---- the first key that is not held
pub first_off-find : (h : ℕ → Bool) (k : ℕ) (ns : List ℕ) → unwrap_or (find (λ x. not (h x)) ns) k ≡ first_off h k ns
unfolding first_off
first_off-find h k [] = refl
first_off-find h k (x ∷ xs) = go (h x) (first_off-find h k xs)
  where
    go : (b : Bool) → unwrap_or (find (λ x. not (h x)) xs) k ≡ first_off h k xs → unwrap_or (cond (not b) (Some x) (find (λ x. not (h x)) xs)) k ≡ cond b (first_off h k xs) x
    go true e = e
    go false e = refl

-- what a search gives is given by value
pub by_value : (o : Option ℕ) (k : ℕ) → unwrap_or o k ≡ unwrap_or (option_map (λ x. x) o) k
by_value None k = refl
by_value (Some x) k = refl

-- ---- keys below 16
key-small : (d e : ℕ) → d ≤ 3 → e ≤ 3 → ltb (key d e) 16 ≡ true
key-small d e a b = unfold key in lt-ltb (4 * d + e) 16 (omega arith)

needs-small : (D d e : ℕ) → Kind d e → D ≤ 3 → d ≤ 3 → e ≤ 3 → all_of (λ x. ltb x 16) (needs D d e) ≡ true
unfolding all_of
needs-small D d e (set p) a b c = go (ℕ_discrete d D)
  where
    go : Dec (d ≡ D) → all_of (λ x. ltb x 16) (needs D d 0) ≡ true
    go (yes q) = rw (q, needs-cells D (omega arith))
    go (no n) = rw (needs-build D d p n, key-small D 0 a (omega arith))
needs-small D d e (up p) a b c = rw (needs-up D d e p, key-small e d c b)
needs-small D d e (down p q) a b c = rw (needs-down D d e p q, key-small d 0 b (omega arith), key-small 0 e (omega arith) c, key-small e 0 c (omega arith))
needs-small D d e (level p) a b c = rw (needs-across D d p, key-small d 0 b (omega arith), key-small 0 d (omega arith) b)
needs-small D d e points a b c = rw (needs-vertices D, key-small 0 D (omega arith) a, key-small D 0 a (omega arith))

first-keeps : (h p : ℕ → Bool) (k : ℕ) (ns : List ℕ) → p k ≡ true → all_of p ns ≡ true → p (first_off h k ns) ≡ true
unfolding first_off all_of
first-keeps h p k [] a b = a
first-keeps h p k (x ∷ xs) a b = go (h x) (first-keeps h p k xs a (right (p x) _ b))
  where
    go : (t : Bool) → p (first_off h k xs) ≡ true → p (cond t (first_off h k xs) x) ≡ true
    go true i = i
    go false i = left _ _ b

pub onward-small : (D : ℕ) (h : ℕ → Bool) (k : ℕ) → D ≤ 3 → k < 16 → onward D h k < 16
unfolding onward
onward-small D h k a b =
    ltb-true _ _ (first-keeps h (λ x. ltb x 16) k (needs D (k / 4) (k % 4)) (lt-ltb k 16 b) (needs-small D (k / 4) (k % 4) (kind (k / 4) (k % 4)) a (omega arith) (omega arith)))

pub next_small : (n D : ℕ) (h : ℕ → Bool) (k : ℕ) → D ≤ 3 → k < 16 → next_key n D h k < 16
unfolding next_key
next_small zero D h k a b = b
next_small (suc n) D h k a b = next_small n D h (onward D h k) a (onward-small D h k a b)

-- ---- one step of the way
pub next-step : (n D : ℕ) (h : ℕ → Bool) (k : ℕ) → 0 < n → next_key (n - 1) D h (onward D h k) ≡ next_key n D h k
unfolding next_key
next-step zero D h k l = absurd (omega arith)
next-step (suc n) D h k l = let q : suc n - 1 ≡ n = omega arith in rw q

pub next-end : (n D : ℕ) (h : ℕ → Bool) (k : ℕ) → n ≤ 0 → next_key n D h k ≡ k
unfolding next_key
next-end n D h k l = let q : n ≡ 0 = omega arith in rw q
