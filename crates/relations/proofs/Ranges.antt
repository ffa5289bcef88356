-- Numbers in a row: one more at the end, and those below n as the numbers from 0 on.
use mathlib.Core.Path.{◌≡◌, refl, ap, ◌∙◌}
use mathlib.Core.Bool.{Bool, false}
use mathlib.Core.List.{List, [], ◌∷◌, ◌++◌, append-nil, append_assoc}
use Prim.Native.Nat.{ℕ, zero, suc, ◌+◌, ◌-◌, ◌≤◌, ◌<◌}
use native.Mathlib.Nat.{zero-add, add-suc, suc-add, add-zero}
use native.Mathlib.Omega.{arith}
use lib.ListN.{length}
use Rattle.rules.specs.Lists.{up_to, keep}
use Rattle.rules.proofs.First.{keep_append}
use Rattle.relations.specs.Words.{range}

pub range_last : (a n : ℕ) → range a (suc n) ≡ range a n ++ ((a + n) ∷ [])
unfolding range
range_last a zero = rw add-zero
range_last a (suc n) = ap (λ (r : List ℕ). a ∷ r) (range_last (suc a) n ∙ rw (suc-add, add-suc))

pub range_split : (a n m : ℕ) → range a (n + m) ≡ range a n ++ range (a + n) m
unfolding range
range_split a zero m = rw (zero-add, add-zero)
range_split a (suc n) m = rw (suc-add, add-suc, ← suc-add) (ap (λ (r : List ℕ). a ∷ r) (range_split (suc a) n m))

pub length-range : (a n : ℕ) → length (range a n) ≡ n
unfolding range
length-range a zero = refl
length-range a (suc n) = ap suc (length-range (suc a) n)

pub up_to-range : (n : ℕ) → range 0 n ≡ up_to n
unfolding up_to range
up_to-range zero = refl
up_to-range (suc n) = range_last 0 n ∙ rw (zero-add, up_to-range n)

pub up_to-split : (a n : ℕ) → up_to (a + n) ≡ up_to a ++ range a n
unfolding up_to range
up_to-split a zero = rw (add-zero, append-nil)
up_to-split a (suc n) = rw (add-suc, up_to-split a n) (append_assoc (up_to a) (range a n) ((a + n) ∷ []) ∙ rw (← range_last a n))

-- a test that no number of a row passes
pub range_none : (p : ℕ → Bool) (a n : ℕ) → ((j : ℕ) → a ≤ j → j < a + n → p j ≡ false) → keep p (range a n) ≡ []
unfolding range keep
range_none p a zero f = refl
range_none p a (suc n) f = rw (f a (omega arith) (omega arith)) (range_none p (suc a) n (λ j l m. f j (omega arith) (omega arith)))

-- a test that no number from n on passes
pub keep-beyond : (p : ℕ → Bool) (n m : ℕ) → n ≤ m → ((j : ℕ) → n ≤ j → p j ≡ false) → keep p (up_to m) ≡ keep p (up_to n)
keep-beyond p n m l f =
    let e : m ≡ n + (m - n) = omega arith in
    rw (e, up_to-split n (m - n), keep_append p (up_to n) (range n (m - n)), range_none p n (m - n) (λ j h k. f j h)) (append-nil (keep p (up_to n)))
