-- What a test keeps of the numbers below n, and how many: the last, and the first that passes with the rest.
use mathlib.Core.Path.{◌≡◌, refl, sym, ap, ◌∙◌}
use mathlib.Core.Bool.{Bool, true, false, cond}
use mathlib.Core.List.{List, [], ◌∷◌, ◌++◌, append_assoc, append-nil}
use mathlib.Core.Logic.{⊎_elim}
use Prim.Native.Nat.{ℕ, zero, suc, ◌+◌, ◌≤◌, ◌<◌}
use native.Mathlib.Nat.{not-suc-le-zero}
use native.Mathlib.Numerals.{add-one}
use native.Mathlib.Omega.{arith}
use lib.ListN.{length, length-append}
use Rattle.rules.specs.Lists.{up_to, keep}
use Rattle.rules.proofs.Compared.{lt-or-le}
use Rattle.rules.proofs.Keep.{keep-agree, keep-short, up_to-is}
use Rattle.rules.proofs.Numbered.{length-up_to}

module _ {A : Type 0} (p : A → Bool) where
  cond-append : (b : Bool) (x : A) (xs ys : List A) → cond b (x ∷ (xs ++ ys)) (xs ++ ys) ≡ cond b (x ∷ xs) xs ++ ys
  cond-append true x xs ys = refl
  cond-append false x xs ys = refl

  pub keep_append : (xs ys : List A) → keep p (xs ++ ys) ≡ keep p xs ++ keep p ys
  unfolding keep
  keep_append [] ys = refl
  keep_append (x ∷ xs) ys = ap (λ (r : List A). cond (p x) (x ∷ r) r) (keep_append xs ys) ∙ cond-append (p x) x (keep p xs) (keep p ys)

pub keep-last : (p : ℕ → Bool) (n : ℕ) → keep p (up_to (suc n)) ≡ keep p (up_to n) ++ cond (p n) (n ∷ []) []
unfolding up_to keep
keep-last p n = keep_append p (up_to n) (n ∷ [])

pub keep_same : (p q : ℕ → Bool) (n : ℕ) → ((k : ℕ) → k < n → p k ≡ q k) → keep p (up_to n) ≡ keep q (up_to n)
keep_same p q n h = keep-agree p q (up_to n) (λ k i. h k (up_to-is k n i))

pub keep-length : (p : ℕ → Bool) (n : ℕ) → length (keep p (up_to n)) ≤ n
keep-length p n = omega (arith, keep-short p (up_to n), length-up_to n)

pub keep-none : (p : ℕ → Bool) (n : ℕ) → ((k : ℕ) → k < n → p k ≡ false) → keep p (up_to n) ≡ []
unfolding up_to keep
keep-none p zero h = refl
keep-none p (suc n) h =
    let one : keep p (up_to n) ≡ [] = keep-none p n (λ k l. h k (omega arith)) in
    let last : p n ≡ false = h n (omega arith) in
    keep-last p n ∙ (rw (one, last))

-- how many numbers below k pass: none at first, then with one number more
pub kept-none : (p : ℕ → Bool) → 0 ≡ length (keep p (up_to 0))
unfolding keep up_to
kept-none p = refl

pub kept_more : (p : ℕ → Bool) (k n : ℕ) → n ≡ length (keep p (up_to k)) → p k ≡ true → n + 1 ≡ length (keep p (up_to (k + 1)))
kept_more p k n e h = rw (add-one k, keep-last p k, length-append, h) (omega arith)

pub kept_same : (p : ℕ → Bool) (k n : ℕ) → n ≡ length (keep p (up_to k)) → p k ≡ false → n ≡ length (keep p (up_to (k + 1)))
kept_same p k n e h = rw (add-one k, keep-last p k, length-append, h) (omega arith)

-- f is false below j, and g is f after j and false elsewhere
pub record First (f g : ℕ → Bool) (j : ℕ) : Type 0 where
  pub low : (k : ℕ) → k < j → f k ≡ false
  pub gone : (k : ℕ) → k ≤ j → g k ≡ false
  pub high : (k : ℕ) → j < k → f k ≡ g k

pub keep-first : (f g : ℕ → Bool) (j n : ℕ) → First f g j → j < n → keep f (up_to n) ≡ cond (f j) (j ∷ []) [] ++ keep g (up_to n)
keep-first f g j zero h l = absurd (not-suc-le-zero l)
keep-first f g j (suc n) h l =
    ⊎_elim
    (λ (l : j < n).
    keep-last f n
    ∙ rw (keep-first f g j n h l, h.high n l) (append_assoc (cond (f j) (j ∷ []) []) (keep g (up_to n)) (cond (g n) (n ∷ []) []))
    ∙ ap (λ (r : List ℕ). cond (f j) (j ∷ []) [] ++ r) (sym (keep-last g n)))
    (λ (m : n ≤ j).
    let e : j ≡ n = omega arith in
    keep-last f n
    ∙ rw (keep-none f n (λ k l. h.low k (omega arith)), keep-none g (suc n) (λ k l. h.gone k (omega arith)), append-nil, e) refl)
    (lt-or-le j n)
