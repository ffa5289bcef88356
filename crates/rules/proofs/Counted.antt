-- Members counted: pairs counted from either side, sums that are even or odd, and lists of different members that have the same members.
use mathlib.Core.Path.{◌≡◌, refl, sym, ap, ◌∙◌}
use mathlib.Core.Logic.{◌⊎◌, inl, inr}
use mathlib.Core.Bool.{Bool, true, false, cond, ◌&&◌, and_comm}
use mathlib.Core.List.Memᴰ
use mathlib.Core.List.Memᴰ.{head as here}
use mathlib.Core.List.Memᴰ.{tail as there}
use mathlib.Core.List.{List, [], ◌∷◌, map, Memᴰ as In}
use Prim.Native.Nat.{ℕ, suc, ◌+◌, ◌%◌, ◌≤◌, zero-le}
use native.Mathlib.Omega.{arith}
use lib.ListN.{length}
use lib.Dec.{eqb}
use Rattle.rules.specs.Lists.{keep}
use Rattle.rules.proofs.Keep.{keep-agree, keep-of, keep-is}
use Rattle.rules.proofs.Distinct.{Distinct}

-- the sum of f over the members
unfoldable pub sum_over {ℓ} : {A : Type ℓ} → (A → ℕ) → List A → ℕ
sum_over f [] = 0
sum_over f (x ∷ xs) = f x + sum_over f xs

module _ {ℓ} {A : Type ℓ} where
  -- one more or none
  pub count-cons : (p : A → Bool) (x : A) (xs : List A) → length (keep p (x ∷ xs)) ≡ cond (p x) 1 0 + length (keep p xs)
  unfolding keep
  count-cons p x xs = go (p x)
    where
      go : (b : Bool) → length (cond b (x ∷ keep p xs) (keep p xs)) ≡ cond b 1 0 + length (keep p xs)
      go true = omega arith
      go false = omega arith

  -- two tests, one after the other and in either order
  pub keep-keep : (p q : A → Bool) (xs : List A) → keep p (keep q xs) ≡ keep (λ x. q x && p x) xs
  unfolding keep
  keep-keep p q [] = refl
  keep-keep p q (x ∷ xs) = go (q x) (keep-keep p q xs)
    where
      go : (b : Bool) → keep p (keep q xs) ≡ keep (λ y. q y && p y) xs → keep p (cond b (x ∷ keep q xs) (keep q xs)) ≡ cond (b && p x) (x ∷ keep (λ y. q y && p y) xs) (keep (λ y. q y && p y) xs)
      go true e = rw (← e)
      go false e = e

  pub keep-swap : (p q : A → Bool) (xs : List A) → keep p (keep q xs) ≡ keep q (keep p xs)
  keep-swap p q xs = keep-keep p q xs ∙ keep-agree (λ x. q x && p x) (λ x. p x && q x) xs (λ x i. and_comm (q x) (p x)) ∙ sym (keep-keep q p xs)

  -- a sum of even numbers is even, and one of ones and twos is as odd as the ones are
  pub sum-even : (f : A → ℕ) (xs : List A) → ((x : A) → In x xs → f x % 2 ≡ 0) → sum_over f xs % 2 ≡ 0
  unfolding sum_over
  sum-even f [] h = refl
  sum-even f (x ∷ xs) h = omega (arith, h x (here refl), sum-even f xs (λ y i. h y (there i)))

  pub sum_ones : (f : A → ℕ) (xs : List A) → ((x : A) → In x xs → (f x ≡ 1) ⊎ (f x ≡ 2)) → sum_over f xs % 2 ≡ length (keep (λ x. eqb (f x) 1) xs) % 2
  unfolding sum_over
  sum_ones f [] h = unfold keep in refl
  sum_ones f (x ∷ xs) h = rw (count-cons (λ y. eqb (f y) 1) x xs) (go (h x (here refl)) (sum_ones f xs (λ y i. h y (there i))))
    where
      go : (f x ≡ 1) ⊎ (f x ≡ 2) → sum_over f xs % 2 ≡ length (keep (λ y. eqb (f y) 1) xs) % 2 → (f x + sum_over f xs) % 2 ≡ (cond (eqb (f x) 1) 1 0 + length (keep (λ y. eqb (f y) 1) xs)) % 2
      go (inl e) k = rw e (omega arith)
      go (inr e) k = rw e (omega arith)

  -- ---- different members
  pub keep-distinct : (p : A → Bool) (xs : List A) → Distinct xs → Distinct (keep p xs)
  unfolding keep
  keep-distinct p [] d = tt
  keep-distinct p (x ∷ xs) d = go (p x) (keep-distinct p xs d.1)
    where
      go : (b : Bool) → Distinct (keep p xs) → Distinct (cond b (x ∷ keep p xs) (keep p xs))
      go true k = (λ i. d.0 (keep-is p xs i).0, k)
      go false k = k

  -- a list with one member taken out
  record Without (x : A) (ys : List A) : Type ℓ where
    rest : List A
    size : length ys ≡ suc (length rest)
    others : (y : A) → In y ys → (y ≡ x) ⊎ In y rest

  without : {x : A} (ys : List A) → In x ys → Without x ys
  without {x = x} [] x'' = elim x'' [ ]
  without {x} (y ∷ ys) (here e) = record { rest = ys; size = refl; others = go }
    where
      go : (z : A) → In z (y ∷ ys) → (z ≡ x) ⊎ In z ys
      go z (here q) = inl (q ∙ sym e)
      go z (there i) = inr i
  without {x} (y ∷ ys) (there i) = let w = without ys i in record { rest = y ∷ w.rest; size = ap suc w.size; others = go w }
    where
      on : (w : Without x ys) (z : A) → (z ≡ x) ⊎ In z w.rest → (z ≡ x) ⊎ In z (y ∷ w.rest)
      on w z (inl e) = inl e
      on w z (inr j) = inr (there j)

      go : (w : Without x ys) (z : A) → In z (y ∷ ys) → (z ≡ x) ⊎ In z (y ∷ w.rest)
      go w z (here q) = inr (here q)
      go w z (there j) = on w z (w.others z j)

  -- that all stand in ys are no more than ys has
  distinct-short : (xs ys : List A) → Distinct xs → ((x : A) → In x xs → In x ys) → length xs ≤ length ys
  distinct-short [] ys d f = zero-le
  distinct-short (x ∷ xs) ys d f =
      let w = without ys (f x (here refl)) in
      let l = distinct-short xs w.rest d.1 (λ y i. go w y i (w.others y (f y (there i)))) in
      omega (arith, w.size)
    where
      go : (w : Without x ys) (y : A) → In y xs → (y ≡ x) ⊎ In y w.rest → In y w.rest
      go w y i (inl e) = absurd (d.0 (Memᴰ.cast (sym e) i))
      go w y i (inr j) = j

  pub distinct-same : (xs ys : List A) → Distinct xs → Distinct ys → ((x : A) → In x xs → In x ys) → ((x : A) → In x ys → In x xs) → length xs ≡ length ys
  distinct-same xs ys d e f g = omega (arith, distinct-short xs ys d f, distinct-short ys xs e g)

  -- and as many of them pass a test
  pub distinct-keep : (p : A → Bool) (xs ys : List A) → Distinct xs → Distinct ys → ((x : A) → In x xs → In x ys) → ((x : A) → In x ys → In x xs) → length (keep p xs) ≡ length (keep p ys)
  distinct-keep p xs ys d e f g =
      distinct-same (keep p xs) (keep p ys) (keep-distinct p xs d) (keep-distinct p ys e)
      (λ x i. let (j, t) = keep-is p xs i in keep-of p ys (f x j) t)
      (λ x i. let (j, t) = keep-is p ys i in keep-of p xs (g x j) t)

  -- terms that agree
  pub sum-agree : (f g : A → ℕ) (xs : List A) → ((x : A) → In x xs → f x ≡ g x) → sum_over f xs ≡ sum_over g xs
  unfolding sum_over
  sum-agree f g [] h = refl
  sum-agree f g (x ∷ xs) h = rw (h x (here refl), sum-agree f g xs (λ y i. h y (there i)))

module _ {ℓ κ} {A : Type ℓ} {B : Type κ} where
  pub keep-map : (p : B → Bool) (f : A → B) (xs : List A) → keep p (map f xs) ≡ map f (keep (λ x. p (f x)) xs)
  unfolding keep
  keep-map p f [] = refl
  keep-map p f (x ∷ xs) = go (p (f x)) (keep-map p f xs)
    where
      go : (b : Bool) → keep p (map f xs) ≡ map f (keep (λ y. p (f y)) xs) → cond b (f x ∷ keep p (map f xs)) (keep p (map f xs)) ≡ map f (cond b (x ∷ keep (λ y. p (f y)) xs) (keep (λ y. p (f y)) xs))
      go true e = rw e
      go false e = e

  pub sum-map : (f : B → ℕ) (g : A → B) (xs : List A) → sum_over f (map g xs) ≡ sum_over (λ x. f (g x)) xs
  unfolding sum_over
  sum-map f g [] = refl
  sum-map f g (x ∷ xs) = ap (λ (n : ℕ). f (g x) + n) (sum-map f g xs)

  -- ---- pairs of a member of xs and a member of ys, counted from either side
  sum-none : (r : A → B → Bool) (ys : List B) → sum_over (λ y. length (keep (λ z. r z y) [])) ys ≡ 0
  unfolding sum_over keep
  sum-none r [] = refl
  sum-none r (y ∷ ys) = omega (arith, sum-none r ys)

  sum_more : (r : A → B → Bool) (x : A) (xs : List A) (ys : List B) → sum_over (λ y. length (keep (λ z. r z y) (x ∷ xs))) ys ≡ length (keep (r x) ys) + sum_over (λ y. length (keep (λ z. r z y) xs)) ys
  unfolding sum_over
  sum_more r x xs [] = unfold keep in refl
  sum_more r x xs (y ∷ ys) =
      let a = count-cons (λ z. r z y) x xs in
      let b = count-cons (r x) y ys in
      omega (arith, sum_more r x xs ys)

  pub pairs : (r : A → B → Bool) (xs : List A) (ys : List B) → sum_over (λ x. length (keep (r x) ys)) xs ≡ sum_over (λ y. length (keep (λ x. r x y) xs)) ys
  unfolding sum_over
  pairs r [] ys = sym (sum-none r ys)
  pairs r (x ∷ xs) ys = rw (sum_more r x xs ys) (ap (λ (n : ℕ). length (keep (r x) ys) + n) (pairs r xs ys))
