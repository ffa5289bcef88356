-- Searches: the first member that passes a test, and a member that stands twice.
use mathlib.Core.Path.{◌≡◌, refl, sym, ◌∙◌}
use mathlib.Core.Logic.{◌⊎◌, inl, inr}
use mathlib.Core.Bool.{Bool, true, false, cond, ◌||◌, false≢true}
use mathlib.Core.List.Memᴰ.{head as here}
use mathlib.Core.List.Memᴰ.{tail as there}
use mathlib.Core.List.{List, [], ◌∷◌, ◌++◌, map, Memᴰ as In}
use Prim.Native.Nat.{ℕ, zero, suc, ◌+◌, ◌≤◌, ◌<◌}
use native.Mathlib.Nat.{add-zero}
use native.Mathlib.Numerals.{add-one}
use native.Mathlib.Omega.{arith}
use lib.ListN.{length, get_or, drop, get_or-append}
use lib.Seq.{drop-cons, drop-length}
use lib.Dec.{ltb}
use borrow.Author.Tests.{ltb-true, lt-ltb}
use Rattle.rules.specs.Lists.{up_to, any_of, first_at, has}
use Rattle.rules.specs.File.{twice}
use Rattle.rules.proofs.Tests.{agree, or_right, has_of, has-is, cases, get_or-in}
use Rattle.rules.proofs.Compared.{order}
use Rattle.rules.proofs.Numbered.{last-or-below, length-up_to, get_or-up_to, length-rows, get_d_rows}

module _ {ℓ} {A : Type ℓ} (p : A → Bool) where
  -- some member passes exactly when the first that does lies within the list
  pub any-first : (xs : List A) → any_of p xs ≡ ltb (first_at p xs) (length xs)
  unfolding any_of first_at
  any-first [] = refl
  any-first (x ∷ xs) = go (p x) (any-first xs)
    where
      more : (a b : ℕ) → ltb (suc a) (suc b) ≡ ltb a b
      more a b =
          agree (ltb (suc a) (suc b)) (ltb a b) (λ h. let l = ltb-true (suc a) (suc b) h in lt-ltb a b (omega arith)) (λ h. let l = ltb-true a b h in lt-ltb (suc a) (suc b) (omega arith))

      go : (b : Bool) → any_of p xs ≡ ltb (first_at p xs) (length xs) → (b || any_of p xs) ≡ ltb (cond b 0 (suc (first_at p xs))) (suc (length xs))
      go true e = sym (lt-ltb 0 (suc (length xs)) (omega arith))
      go false e = e ∙ sym (more (first_at p xs) (length xs))

  -- rows given by their number, from row c on
  module _ (f : ℕ → A) (n c : ℕ) where
    rest : c < n → drop c (map f (up_to n)) ≡ f c ∷ drop (suc c) (map f (up_to n))
    rest l = drop-cons (map f (up_to n)) c (f c) (rw length-rows l) ∙ rw (get_d_rows f n c (f c) l)

    pub first-passed : c < n → p (f c) ≡ false → c + first_at p (drop c (map f (up_to n))) ≡ c + 1 + first_at p (drop (c + 1) (map f (up_to n)))
    first-passed l e =
        let r : first_at p (drop c (map f (up_to n))) ≡ suc (first_at p (drop (suc c) (map f (up_to n)))) = rw (rest l) (unfold first_at in rw e) in
        rw (r, add-one c) (omega arith)

    pub first_found : c < n → p (f c) ≡ true → c + first_at p (drop c (map f (up_to n))) ≡ c
    first_found l e = rw (rest l) (unfold first_at in rw (e, add-zero))

    pub first-none : n ≤ c → c ≤ n → c + first_at p (drop c (map f (up_to n))) ≡ c
    first-none l h =
        let e : drop c (map f (up_to n)) ≡ [] = let q : c ≡ length (map f (up_to n)) = rw length-rows (omega arith) in rw q (drop-length (map f (up_to n))) in
        rw e (unfold first_at in add-zero c)

-- ---- the first place that passes, by places
-- a member has a place
pub place_in {ℓ} : {A : Type ℓ} {x : A} (xs : List A) (d : A) → In x xs → (i : ℕ) × (i < length xs) × (x ≡ get_or xs i d)
place_in (y ∷ ys) d (here e) = (0, omega arith, e)
place_in (y ∷ ys) d (there i) = let (j, l, e) = place_in ys d i in (suc j, omega arith, e)
place_in {A = A} [] d x'' = elim x'' [ ]

module _ {ℓ} {A : Type ℓ} (p : A → Bool) (d : A) where
  pub first_passes : (xs : List A) → first_at p xs < length xs → p (get_or xs (first_at p xs) d) ≡ true
  unfolding first_at
  first_passes [] l = absurd (omega arith)
  first_passes (x ∷ xs) l = go (p x) refl l (first_passes xs)
    where
      go : (b : Bool) → p x ≡ b → cond b 0 (suc (first_at p xs)) < suc (length xs) → (first_at p xs < length xs → p (get_or xs (first_at p xs) d) ≡ true) → p (get_or (x ∷ xs) (cond b 0 (suc (first_at p xs))) d) ≡ true
      go true e k ih = e
      go false e k ih = ih (omega arith)

  pub first-before : (xs : List A) (j : ℕ) → j < first_at p xs → p (get_or xs j d) ≡ false
  unfolding first_at
  first-before [] j l = absurd (omega arith)
  first-before (x ∷ xs) j l = go (p x) refl j l (first-before xs)
    where
      go : (b : Bool) → p x ≡ b → (j : ℕ) → j < cond b 0 (suc (first_at p xs)) → ((i : ℕ) → i < first_at p xs → p (get_or xs i d) ≡ false) → p (get_or (x ∷ xs) j d) ≡ false
      go true e j k ih = absurd (omega arith)
      go false e zero k ih = e
      go false e (suc j) k ih = ih j (omega arith)

  pub first-most : (xs : List A) → first_at p xs ≤ length xs
  unfolding first_at
  first-most [] = omega arith
  first-most (x ∷ xs) = go (p x) (first-most xs)
    where
      go : (b : Bool) → first_at p xs ≤ length xs → cond b 0 (suc (first_at p xs)) ≤ suc (length xs)
      go true l = omega arith
      go false l = omega arith

  -- it is i, where the members before do not pass, and i passes or is the length
  pub first-is : (xs : List A) (i : ℕ) → i ≤ length xs → ((j : ℕ) → j < i → p (get_or xs j d) ≡ false) → (i < length xs → p (get_or xs i d) ≡ true) → first_at p xs ≡ i
  first-is xs i l b t = go (order (first_at p xs) i)
    where
      go : (first_at p xs ≡ i) ⊎ ((first_at p xs < i) ⊎ (i < first_at p xs)) → first_at p xs ≡ i
      go (inl e) = e
      go (inr (inl m)) = absurd (false≢true (sym (b (first_at p xs) m) ∙ first_passes xs (omega arith)))
      go (inr (inr m)) = absurd (false≢true (sym (first-before xs i m) ∙ t (omega (arith, first-most xs))))

-- the same among the numbers below n
module _ (p : ℕ → Bool) (n : ℕ) where
  pub least-most : first_at p (up_to n) ≤ n
  least-most = rw length-up_to at (first-most p 0 (up_to n))

  pub least-passes : first_at p (up_to n) < n → p (first_at p (up_to n)) ≡ true
  least-passes l = rw (get_or-up_to n (first_at p (up_to n)) 0 l) at (first_passes p 0 (up_to n) (rw length-up_to l))

  pub least-before : (j : ℕ) → j < first_at p (up_to n) → p j ≡ false
  least-before j l = rw (get_or-up_to n j 0 (omega (arith, least-most))) at (first-before p 0 (up_to n) j l)

  pub least-is : (i : ℕ) → i ≤ n → ((j : ℕ) → j < i → p j ≡ false) → (i < n → p i ≡ true) → first_at p (up_to n) ≡ i
  least-is i l b t =
      first-is p 0 (up_to n) i (rw length-up_to l) (λ j m. rw (get_or-up_to n j 0 (omega arith)) (b j m))
      (λ m. let k : i < n = rw length-up_to at m in rw (get_or-up_to n i 0 k) (t k))

-- two tests that agree below n
pub least-agree : (p q : ℕ → Bool) (n : ℕ) → ((i : ℕ) → i < n → p i ≡ q i) → first_at p (up_to n) ≡ first_at q (up_to n)
least-agree p q n g =
    least-is p n (first_at q (up_to n)) (least-most q n) (λ j l. g j (omega (arith, least-most q n)) ∙ least-before q n j l) (λ l. g (first_at q (up_to n)) l ∙ least-passes q n l)

-- members changed in a way that the test does not mind
pub first-mapped {ℓ} : {A : Type ℓ} (p : A → Bool) (g : A → A) → ((x : A) → p (g x) ≡ p x) → (xs : List A) → first_at p (map g xs) ≡ first_at p xs
unfolding first_at
first-mapped p g h [] = refl
first-mapped p g h (x ∷ xs) = rw (h x, first-mapped p g h xs)

-- ---- a member that stands twice
-- of any two places below n, the members differ
abbrev pub Apart : List ℕ → ℕ → Type 0
Apart xs n = (b : ℕ) → b < n → (a : ℕ) → a < b → get_or xs a 0 ≡ get_or xs b 0 → ⊥

pub twice-at : (xs : List ℕ) (a b : ℕ) → a < b → b < length xs → get_or xs a 0 ≡ get_or xs b 0 → twice xs ≡ true
unfolding twice
twice-at [] a b l h e = absurd (omega arith)
twice-at (x ∷ xs) zero zero l h e = absurd (omega arith)
twice-at (x ∷ xs) zero (suc b) l h e = let i = has_of (get_or-in xs b 0 (omega arith)) in let k : has x xs ≡ true = rw (← e) at i in rw k
twice-at (x ∷ xs) (suc a) zero l h e = absurd (omega arith)
twice-at (x ∷ xs) (suc a) (suc b) l h e = or_right (has x xs) (twice xs) (twice-at xs a b (omega arith) (omega arith) e)

place_of : (x : ℕ) (xs : List ℕ) → has x xs ≡ true → (b : ℕ) × (b < length xs) × (x ≡ get_or xs b 0)
place_of x xs h = place_in xs 0 (has-is x xs h)

pub apart-once : (xs : List ℕ) → Apart xs (length xs) → twice xs ≡ false
unfolding twice
apart-once [] f = refl
apart-once (x ∷ xs) f = rw (absent (cases (has x xs)), apart-once xs (λ b l a k e. f (suc b) (omega arith) (suc a) (omega arith) e))
  where
    absent : (has x xs ≡ true) ⊎ (has x xs ≡ false) → has x xs ≡ false
    absent (inl h) = let (b, l, e) = place_of x xs h in absurd (f (suc b) (omega arith) 0 (omega arith) e)
    absent (inr h) = h

-- ---- some member from place k on passes
module _ {ℓ} {A : Type ℓ} (p : A → Bool) (xs : List A) (d : A) (k : ℕ) where
  pub any-passed : k < length xs → p (get_or xs k d) ≡ false → any_of p (drop k xs) ≡ any_of p (drop (k + 1) xs)
  any-passed l e = rw (add-one k, drop-cons xs k d l) (unfold any_of in rw e)

  pub any_found : k < length xs → p (get_or xs k d) ≡ true → any_of p (drop k xs) ≡ true
  any_found l e = rw (drop-cons xs k d l) (unfold any_of in rw e)

  pub any-end : length xs ≡ k → any_of p (drop k xs) ≡ false
  any-end e = rw (← e, drop-length xs) (unfold any_of in refl)

-- the members of a list's front
pub apart-front : (xs ys : List ℕ) → Apart (xs ++ ys) (length xs) → twice xs ≡ false
apart-front xs ys f =
    apart-once xs (λ b l a k e. f b l a k (get_or-append xs ys 0 a (omega arith) ∙ e ∙ sym (get_or-append xs ys 0 b l)))

pub twice-front : (xs ys : List ℕ) (a b : ℕ) → a < b → b < length xs → get_or (xs ++ ys) a 0 ≡ get_or (xs ++ ys) b 0 → twice xs ≡ true
twice-front xs ys a b k l e = twice-at xs a b k l (sym (get_or-append xs ys 0 a (omega arith)) ∙ e ∙ get_or-append xs ys 0 b l)

-- member i is apart from those after it, up to place j
abbrev pub ApartFrom : List ℕ → ℕ → ℕ → Type 0
ApartFrom xs i j = (b : ℕ) → i < b → b < j → get_or xs i 0 ≡ get_or xs b 0 → ⊥

pub from-none : (xs : List ℕ) (i : ℕ) → ApartFrom xs i (i + 1)
from-none xs i b k l e = omega arith

pub from_more : (xs : List ℕ) (i j : ℕ) → ApartFrom xs i j → (get_or xs i 0 ≡ get_or xs j 0 → ⊥) → ApartFrom xs i (j + 1)
from_more xs i j f g b k l e = go (last-or-below b j (rw add-one at l))
  where
    go : (b ≡ j) ⊎ (b < j) → ⊥
    go (inl q) = g (rw q at e)
    go (inr h) = f b k h e

pub before_more : (xs : List ℕ) (i n : ℕ) → ((a : ℕ) → a < i → ApartFrom xs a n) → ApartFrom xs i n → (a : ℕ) → a < i + 1 → ApartFrom xs a n
before_more xs i n f g a l = go (last-or-below a i (rw add-one at l))
  where
    go : (a ≡ i) ⊎ (a < i) → ApartFrom xs a n
    go (inl q) = rw q g
    go (inr h) = f a h

-- where every member is apart from those after it, any two are apart
pub apart-all : (xs : List ℕ) (n : ℕ) → ((a : ℕ) → a < n → ApartFrom xs a n) → Apart xs n
apart-all xs n f b l a k e = f a (omega arith) b k l e
