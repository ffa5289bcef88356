-- Rows, one more at the end: their offsets, and their indices one after another.
use mathlib.Core.Path.{◌≡◌, refl, ap, ◌∙◌}
use mathlib.Core.List.{List, [], ◌∷◌, ◌++◌, map, append_assoc, append-nil, map-append}
use Prim.Native.Nat.{ℕ, ◌+◌, ◌≤◌}
use native.Mathlib.Nat.{zero-add}
use native.Mathlib.Numerals.{add-one}
use native.Mathlib.Omega.{arith}
use lib.ListN.{length, drop, length-append, length-drop}
use lib.Seq.{sets, sets-eq, take_at, drop-append-add, drop-drop}
use Rattle.rules.specs.Lists.{up_to, joined}
use Rattle.rules.specs.Book.{offsets}
use Rattle.rules.proofs.Relation.{joined-append}

pub map_last {ℓ} : {A : Type ℓ} (f : ℕ → A) (i : ℕ) → map f (up_to (i + 1)) ≡ map f (up_to i) ++ (f i ∷ [])
unfolding up_to
map_last f i = rw (add-one i) (map-append f (up_to i) (i ∷ []))

pub joined-last : (rs : List (List ℕ)) (r : List ℕ) → joined (rs ++ (r ∷ [])) ≡ joined rs ++ r
joined-last rs r = joined-append rs (r ∷ []) ∙ ap (λ (t : List ℕ). joined rs ++ t) (unfold joined in append-nil r)

offsets-last : (n : ℕ) (rs : List (List ℕ)) (r : List ℕ) → offsets n (rs ++ (r ∷ [])) ≡ offsets n rs ++ ((n + length (joined rs ++ r)) ∷ [])
unfolding offsets joined
offsets-last n [] r = refl
offsets-last n (x ∷ xs) r =
    let e : n + length x + length (joined xs ++ r) ≡ n + length (x ++ joined xs ++ r) = simp (append_assoc, length-append) (omega arith) in
    ap (λ (l : List ℕ). n ∷ l) (offsets-last (n + length x) xs r ∙ rw e)

module _ (r : ℕ → List ℕ) where
  pub joined-more : (i : ℕ) → joined (map r (up_to (i + 1))) ≡ joined (map r (up_to i)) ++ r i
  joined-more i = rw (map_last r i) (joined-last (map r (up_to i)) (r i))

  pub offsets-more : (i : ℕ) → offsets 0 (map r (up_to (i + 1))) ≡ offsets 0 (map r (up_to i)) ++ (length (joined (map r (up_to (i + 1)))) ∷ [])
  offsets-more i = rw (map_last r i, joined-last (map r (up_to i)) (r i)) (offsets-last 0 (map r (up_to i)) (r i) ∙ rw zero-add)

-- words put behind what stands at the front of lent places
pub put-behind : (front new lent : List ℕ) → length front + length new ≤ length lent
    → sets (front ++ drop (length front) lent) (length front) new ≡ (front ++ new) ++ drop (length (front ++ new)) lent
put-behind front new lent l =
    let long : length front + length new ≤ length (front ++ drop (length front) lent) = rw (length-append, length-drop) (omega arith) in
    sets-eq new (front ++ drop (length front) lent) (length front) long
    ∙ rw (take_at front (drop (length front) lent) (length front) refl, drop-append-add front (drop (length front) lent) (length new), drop-drop, length-append)
