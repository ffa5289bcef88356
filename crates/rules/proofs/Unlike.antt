-- Rows of which no two are equal, by their places.
use mathlib.Core.Path.{◌≡◌, sym, ap, ◌∙◌}
use mathlib.Core.Logic.{◌⊎◌, inl, inr}
use mathlib.Core.Bool.{true, false, false≢true}
use mathlib.Core.List.{List, [], ◌∷◌, ◌++◌, map, Memᴰ as In}
use Prim.Native.Nat.{ℕ, suc, ◌+◌, ◌<◌}
use native.Mathlib.Omega.{arith}
use lib.ListN.{length, get_or, take, length-take, length-append, length-map, get_or-append}
use lib.Seq.{get_or-take, get_or-append-add}
use lib.Dec.{eqb, ltb}
use Rattle.rules.specs.Lists.{up_to, any_of, first_at, same, repeated, repeats, first_repeated, ascends}
use Rattle.rules.proofs.Tests.{any-of, any-is, any_none, none_of, same_refl, same-is, get_or-in, cases}
use Rattle.rules.proofs.Keep.{up_to-of, up_to-is}
use Rattle.rules.proofs.Numbered.{length-up_to, get_d_map}
use Rattle.rules.proofs.Compared.{order, lt-or-le}
use Rattle.rules.proofs.Distinct.{Distinct}
use Rattle.rules.proofs.Searched.{any-first, place_in}
use Rattle.rules.proofs.Ranked.{rank-of}

-- no two places hold the same row
abbrev pub Unlike : List (List ℕ) → Type 0
Unlike rs = (i j : ℕ) → i < length rs → j < length rs → get_or rs i [] ≡ get_or rs j [] → i ≡ j

module _ (rs : List (List ℕ)) where
  -- row i equals the earlier row j
  pub repeated-of : (i j : ℕ) → j < i → i < length rs → get_or rs i [] ≡ get_or rs j [] → repeated rs i ≡ true
  unfolding repeated
  repeated-of i j l h e =
      let n : j < length (take i rs) = rw length-take (omega arith) in
      let m : In (get_or rs j []) (take i rs) = rw (get_or-take i rs j [] l) at (get_or-in (take i rs) j [] n) in
      any-of (same (get_or rs i [])) m (rw e (same_refl (get_or rs j [])))

  pub repeated-is : (i : ℕ) → i < length rs → repeated rs i ≡ true → (j : ℕ) × (j < i) × (get_or rs i [] ≡ get_or rs j [])
  unfolding repeated
  repeated-is i h e =
      let (r, m, q) = any-is (same (get_or rs i [])) (take i rs) e in
      let (j, l, p) = place_in (take i rs) [] m in
      let k : j < i = omega (arith, length-take i rs) in
      (j, k, same-is (get_or rs i []) r q ∙ p ∙ get_or-take i rs j [] k)

  pub unlike-not : Unlike rs → (i : ℕ) → i < length rs → repeated rs i ≡ false
  unlike-not u i l = elim (cases (repeated rs i)) [ inl e ↦ (let (j, k, q) = repeated-is i l e in absurd (omega (arith, u i j l (omega arith) q))) | inr e ↦ e ]

  pub not-repeated : repeats rs ≡ false → (i : ℕ) → i < length rs → repeated rs i ≡ false
  unfolding repeats
  not-repeated h i l = none_of (repeated rs) h (up_to-of i (length rs) l)

  -- two rows are equal exactly when they are not unlike
  pub unlike-of : repeats rs ≡ false → Unlike rs
  unlike-of h i j a b e = go (order i j)
    where
      go : (i ≡ j) ⊎ ((i < j) ⊎ (j < i)) → i ≡ j
      go (inl q) = q
      go (inr (inl l)) = absurd (false≢true (sym (not-repeated h j b) ∙ repeated-of j i l b (sym e)))
      go (inr (inr l)) = absurd (false≢true (sym (not-repeated h i a) ∙ repeated-of i j l a e))

  pub unlike-is : Unlike rs → repeats rs ≡ false
  unfolding repeats
  unlike-is u = any_none (repeated rs) (up_to (length rs)) (λ i k. unlike-not u i (up_to-is i (length rs) k))

  -- two rows are equal exactly when the lowest that equals an earlier one lies within the rows
  pub repeats-first : repeats rs ≡ ltb (first_repeated rs) (length rs)
  unfolding repeats first_repeated
  repeats-first = any-first (repeated rs) (up_to (length rs)) ∙ rw (length-up_to (length rs))

-- a row more at the end that equals none of the others
pub repeats-last : (rs : List (List ℕ)) (r : List ℕ) → repeats rs ≡ false → any_of (same r) rs ≡ false → repeats (rs ++ (r ∷ [])) ≡ false
repeats-last rs r h n = unlike-is (rs ++ (r ∷ [])) (λ i j a b e. go i j (side i a) (side j b) e)
  where
    side : (i : ℕ) → i < length (rs ++ (r ∷ [])) → (i < length rs) ⊎ (i ≡ length rs)
    side i l = let m = length-append rs (r ∷ []) in elim (lt-or-le i (length rs)) [ inl x ↦ inl x | inr y ↦ inr (omega arith) ]

    at : (i : ℕ) → i < length rs → get_or (rs ++ (r ∷ [])) i [] ≡ get_or rs i []
    at i l = get_or-append rs (r ∷ []) [] i l

    end : (i : ℕ) → i ≡ length rs → get_or (rs ++ (r ∷ [])) i [] ≡ r
    end i q = let k : i ≡ length rs + 0 = omega arith in rw k (get_or-append-add rs (r ∷ []) 0 [])

    new : (j : ℕ) → j < length rs → r ≡ get_or rs j [] → ⊥
    new j l e = false≢true (sym (none_of (same r) n (get_or-in rs j [] l)) ∙ rw e (same_refl (get_or rs j [])))

    go : (i j : ℕ) → (i < length rs) ⊎ (i ≡ length rs) → (j < length rs) ⊎ (j ≡ length rs) → get_or (rs ++ (r ∷ [])) i [] ≡ get_or (rs ++ (r ∷ [])) j [] → i ≡ j
    go i j (inl x) (inl y) e = unlike-of rs h i j x y (sym (at i x) ∙ e ∙ at j y)
    go i j (inl x) (inr y) e = absurd (new i x (sym (end j y) ∙ sym e ∙ at i x))
    go i j (inr x) (inl y) e = absurd (new j y (sym (end i x) ∙ e ∙ at j y))
    go i j (inr x) (inr y) e = omega arith

-- rows given by ascending numbers, no two of them the same row
pub repeats-map : (g : ℕ → List ℕ) (xs : List ℕ) → ascends xs ≡ true → ((x y : ℕ) → In x xs → In y xs → g x ≡ g y → x ≡ y) → repeats (map g xs) ≡ false
repeats-map g xs u h =
    unlike-is (map g xs)
    (λ i j a b e.
    let k : i < length xs = rw length-map at a in
    let l : j < length xs = rw length-map at b in
    let s = h (get_or xs i 0) (get_or xs j 0) (get_or-in xs i 0 k) (get_or-in xs j 0 l) (sym (get_d_map g xs i 0 [] k) ∙ e ∙ get_d_map g xs j 0 [] l) in
    sym (rank-of xs i 0 u k) ∙ ap (λ (x : ℕ). first_at (eqb x) xs) s ∙ rank-of xs j 0 u l)

-- they are all different members
pub unlike-distinct : (rs : List (List ℕ)) → Unlike rs → Distinct rs
unlike-distinct [] u = tt
unlike-distinct (r ∷ rs) u =
    (λ i. let (j, l, e) = place_in rs [] i in new j (u 0 (suc j) (omega arith) (omega arith) e), unlike-distinct rs (λ i j a b e. one_less i j (u (suc i) (suc j) (omega arith) (omega arith) e)))
  where
    new : (j : ℕ) → 0 ≡ suc j → ⊥
    new j e = omega arith

    one_less : (i j : ℕ) → suc i ≡ suc j → i ≡ j
    one_less i j e = omega arith
