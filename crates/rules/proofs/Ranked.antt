-- The place of a member in a list, where ascending lists keep the order and count what stands before; and of one or two members the other.
use mathlib.Core.Path.{◌≡◌, refl, sym, ap, ◌∙◌}
use mathlib.Core.Logic.{◌⊎◌, inl, inr}
use mathlib.Core.Bool.{Bool, true, cond, not}
use mathlib.Core.List.Memᴰ
use mathlib.Core.List.Memᴰ.{head as here}
use mathlib.Core.List.Memᴰ.{tail as there}
use mathlib.Core.List.{List, [], ◌∷◌, ◌++◌, map, append_assoc, Memᴰ as In}
use Prim.Native.Nat.{ℕ, zero, suc, ◌<◌}
use native.Mathlib.Omega.{arith}
use lib.ListN.{length, get_or}
use lib.Dec.{eqb}
use borrow.Author.Tests.{ltb-true, eqb-true, eq-eqb, ne_eqb}
use Rattle.rules.specs.Lists.{up_to, first_at, keep, has, ascends}
use Rattle.rules.proofs.Compared.{order}
use Rattle.rules.proofs.Tests.{get_or-inside, has_of}
use Rattle.rules.proofs.Keep.{keep-is, up_to-is}
use Rattle.rules.proofs.Numbered.{last-or-below}
use Rattle.rules.proofs.First.{keep-last}
use Rattle.rules.proofs.Ascending.{tail-up, above, ascends-two, cons-up}
use Rattle.rules.proofs.Distinct.{map_is}
use Rattle.rules.proofs.Searched.{any-first, first_passes, first-is}

-- a member's place lies within the list, and the member stands there
pub rank_below : (x : ℕ) (vs : List ℕ) → In x vs → first_at (eqb x) vs < length vs
rank_below x vs i = ltb-true _ _ (sym (any-first (eqb x) vs) ∙ unfold has in has_of i)

pub rank-at : (x z : ℕ) (vs : List ℕ) → In x vs → get_or vs (first_at (eqb x) vs) z ≡ x
rank-at x z vs i = sym (eqb-true x _ (first_passes (eqb x) z vs (rank_below x vs i)))

-- in an ascending list the higher member has the higher place
pub rank_up : (x y : ℕ) (vs : List ℕ) → ascends vs ≡ true → In x vs → In y vs → x < y → first_at (eqb x) vs < first_at (eqb y) vs
rank_up x y vs u i j l = go (order (first_at (eqb x) vs) (first_at (eqb y) vs))
  where
    go : (first_at (eqb x) vs ≡ first_at (eqb y) vs) ⊎ ((first_at (eqb x) vs < first_at (eqb y) vs) ⊎ (first_at (eqb y) vs < first_at (eqb x) vs)) → first_at (eqb x) vs < first_at (eqb y) vs
    go (inl e) = let same : x ≡ y = sym (rank-at x 0 vs i) ∙ ap (λ (k : ℕ). get_or vs k 0) e ∙ rank-at y 0 vs j in absurd (omega arith)
    go (inr (inl k)) = k
    go (inr (inr k)) = absurd (omega (arith, ascends-two vs (first_at (eqb y) vs) (first_at (eqb x) vs) u k (rank_below x vs i), rank-at x 0 vs i, rank-at y 0 vs j))

-- and a member's place is the one where it stands
pub rank-of : (vs : List ℕ) (i z : ℕ) → ascends vs ≡ true → i < length vs → first_at (eqb (get_or vs i z)) vs ≡ i
rank-of vs i z u l =
    first-is (eqb (get_or vs i z)) z vs i (omega arith) (λ j k. ne_eqb _ _ (λ (e : get_or vs i z ≡ get_or vs j z). omega (arith, ascends-two vs j i u k l, get_or-inside vs i 0 z l, get_or-inside vs j 0 z (omega arith))))
    (λ k. eq-eqb (get_or vs i z) (get_or vs i z) refl)

-- numbers that keep the order make an ascending list of one
pub map-up : (g : ℕ → ℕ) (xs : List ℕ) → ascends xs ≡ true → ((x y : ℕ) → In x xs → In y xs → x < y → g x < g y) → ascends (map g xs) ≡ true
map-up g [] u f = u
map-up g (x ∷ xs) u f =
    cons-up (g x) (map g xs) (λ j i. let (y, k, e) = map_is g xs i in rw e (f x y (here refl) (there k) (above x xs u y k)))
    (map-up g xs (tail-up x xs u) (λ a b i j l. f a b (there i) (there j) l))

-- numbers that are taken back one by one
pub map-undo : (h g : ℕ → ℕ) (xs : List ℕ) → ((x : ℕ) → In x xs → h (g x) ≡ x) → map h (map g xs) ≡ xs
map-undo h g [] f = refl
map-undo h g (x ∷ xs) f = cc (f x (here refl), map-undo h g xs (λ y i. f y (there i)))

-- ---- of the numbers that pass a test, one's place is how many pass below it
first-behind : (x : ℕ) (ys zs : List ℕ) → (In x ys → ⊥) → first_at (eqb x) (ys ++ (x ∷ zs)) ≡ length ys
unfolding first_at
first-behind x [] zs f = rw (eq-eqb x x refl)
first-behind x (y ∷ ys) zs f = rw (ne_eqb x y (λ e. f (here e)), first-behind x ys zs (λ i. f (there i)))

keep-front : (p : ℕ → Bool) (v n : ℕ) → v < n → p v ≡ true → (r : List ℕ) × (keep p (up_to n) ≡ keep p (up_to v) ++ (v ∷ r))
keep-front p v zero l h = absurd (omega arith)
keep-front p v (suc n) l h = go (last-or-below v n l) (λ q. keep-front p v n q h)
  where
    go : (v ≡ n) ⊎ (v < n) → (v < n → (r : List ℕ) × (keep p (up_to n) ≡ keep p (up_to v) ++ (v ∷ r))) → (r : List ℕ) × (keep p (up_to (suc n)) ≡ keep p (up_to v) ++ (v ∷ r))
    go (inl e) f = ([], keep-last p n ∙ rw (← e, h))
    go (inr q) f =
        let (r, e) = f q in
        (r ++ cond (p n) (n ∷ []) [], keep-last p n ∙ rw (e, append_assoc))

pub rank-counts : (p : ℕ → Bool) (v n : ℕ) → v < n → p v ≡ true → first_at (eqb v) (keep p (up_to n)) ≡ length (keep p (up_to v))
rank-counts p v n l h =
    let (r, e) = keep-front p v n l h in
    rw e (first-behind v (keep p (up_to v)) r (λ i. let q = up_to-is v v (keep-is p (up_to v) i).0 in omega arith))

-- ---- the other of one or two
-- the other than c: a member, not c, and its own other is c
pub record Other (row : List ℕ) (c a z : ℕ) : Type 0 where
  pub member : In a row
  pub apart : a ≡ c → ⊥
  pub back : get_or (keep (λ j. not (eqb j a)) row) 0 z ≡ c

-- of one there is no other
pub other_none : (row : List ℕ) (c z : ℕ) → length row ≡ 1 → In c row → get_or (keep (λ j. not (eqb j c)) row) 0 z ≡ z
unfolding keep
other_none [] c z l i = absurd (omega arith)
other_none (x ∷ []) c z l i = rw (eq-eqb x c (sym (Memᴰ.eq_of_singleton i)))
other_none (x ∷ y ∷ ys) c z l i = absurd (omega arith)

other-first : (x y z : ℕ) → x < y → get_or (keep (λ j. not (eqb j x)) (x ∷ y ∷ [])) 0 z ≡ y
unfolding keep
other-first x y z l = rw (eq-eqb x x refl, ne_eqb y x (omega arith))

other-second : (x y z : ℕ) → x < y → get_or (keep (λ j. not (eqb j y)) (x ∷ y ∷ [])) 0 z ≡ x
unfolding keep
other-second x y z l = rw (ne_eqb x y (omega arith))

-- of two there is
pub other : (row : List ℕ) (c z : ℕ) → ascends row ≡ true → length row ≡ 2 → In c row → Other row c (get_or (keep (λ j. not (eqb j c)) row) 0 z) z
other [] c z u l i = absurd (omega arith)
other (x ∷ []) c z u l i = absurd (omega arith)
other (x ∷ y ∷ []) c z u l i = go (Memᴰ.cases_cons i)
  where
    k : x < y
    k = above x (y ∷ []) u y (here refl)

    go : (c ≡ x) ⊎ In c (y ∷ []) → Other (x ∷ y ∷ []) c (get_or (keep (λ j. not (eqb j c)) (x ∷ y ∷ [])) 0 z) z
    go (inl e) = rw (e, other-first x y z k) (record { member = there (here refl); apart = λ q. omega (arith, k); back = other-second x y z k })
    go (inr j) = rw (Memᴰ.eq_of_singleton j, other-second x y z k) (record { member = here refl; apart = λ q. omega (arith, k); back = other-first x y z k })
other (x ∷ y ∷ w ∷ ws) c z u l i = absurd (omega arith)
