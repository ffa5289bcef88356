-- The same cells in another order: each relation has as many indices, so the same relations take as many words.
use mathlib.Core.Path.{◌≡◌, refl, sym, ap, ◌∙◌}
use mathlib.Core.Logic.{◌⊎◌, inl, inr}
use mathlib.Core.Bool.{Bool, true, false, cond, not, ◌&&◌}
use mathlib.Core.List.{List, [], ◌∷◌, map}
use Prim.Native.Nat.{ℕ, zero, suc, ◌+◌, ◌/◌, ◌%◌, ◌<◌}
use native.Mathlib.Omega.{arith}
use lib.ListN.{length, length-append}
use lib.Dec.{eqb, ltb}
use borrow.Author.Tests.{eqb-true, eq-eqb, ltb-true, ltb-false, ne_eqb}
use Rattle.rules.specs.Lists.{up_to, keep, inside, meets, same, repeats, joined, rows_by}
use Rattle.rules.specs.Book.{named, relation, relations}
use Rattle.rules.specs.Truth.{Mesh, entities, number, entity, incident, true_rows, true_at}
use Rattle.rules.specs.SameCells.{SameCells}
use Rattle.rules.proofs.Tests.{cases, agree, same-is, same_refl}
use Rattle.rules.proofs.Keep.{keep-agree, up_to-is}
use Rattle.rules.proofs.Relation.{length-relation}
use Rattle.rules.proofs.Counted.{sum_over, distinct-keep, sum-agree, pairs}
use Rattle.rules.proofs.Incidence.{incident-down, incident-up, incident-level}
use Rattle.rules.proofs.TrueRows.{length-true_rows}
use Rattle.rules.proofs.TrueFacts.{entities-distinct, one_place, by_number, sum_number}
use Rattle.rules.proofs.TrueBook.{true_used}
use Rattle.rules.proofs.SameCells.{there-too, back-too, same_points, same_numbers}

-- ---- the indices of a relation, counted
length-joined-map : (g : ℕ → List ℕ) (xs : List ℕ) → length (joined (map g xs)) ≡ sum_over (λ x. length (g x)) xs
unfolding joined sum_over
length-joined-map g [] = refl
length-joined-map g (x ∷ xs) = rw (length-append) (ap (λ (n : ℕ). length (g x) + n) (length-joined-map g xs))

-- whether two entities are incident, by their vertex sets alone, but for two vertices
touches : ℕ → ℕ → List ℕ → List ℕ → Bool
touches d e s t = cond (ltb e d) (inside t s) (cond (ltb d e) (inside s t) (not (same t s) && meets s t))

module _ (m : Mesh) (once : repeats m.cells ≡ false) (d e : ℕ) (low : d ≡ 0 → e ≡ 0 → ⊥) where
  -- two numbers are equal exactly where their vertex sets are
  same-entity : (i j : ℕ) → i < number m d → j < number m d → eqb j i ≡ same (entity m d j) (entity m d i)
  same-entity i j a b =
      agree (eqb j i) (same (entity m d j) (entity m d i))
      (λ h. rw (eqb-true j i h) (same_refl (entity m d i)))
      (λ h. eq-eqb j i (one_place m once d j i b a (same-is (entity m d j) (entity m d i) h)))

  incident-touches : (i j : ℕ) → i < number m d → j < number m e → incident m d e i j ≡ touches d e (entity m d i) (entity m e j)
  unfolding touches
  incident-touches i j a b = go (cases (ltb e d)) (cases (ltb d e))
    where
      go : (ltb e d ≡ true) ⊎ (ltb e d ≡ false) → (ltb d e ≡ true) ⊎ (ltb d e ≡ false)
          → incident m d e i j ≡ cond (ltb e d) (inside (entity m e j) (entity m d i)) (cond (ltb d e) (inside (entity m d i) (entity m e j)) (not (same (entity m e j) (entity m d i)) && meets (entity m d i) (entity m e j)))
      go (inl h) t = rw (h, incident-down m d e i j (ltb-true e d h))
      go (inr h) (inl t) = rw (h, t, incident-up m d e i j (ltb-true d e t))
      go (inr h) (inr t) =
          let o = ltb-false e d h in
          let w = ltb-false d e t in
          let q : e ≡ d = omega arith in
          let b' : j < number m d = rw q at b in
          let z : eqb d 0 ≡ false = ne_eqb d 0 (λ p. low p (q ∙ p)) in
          rw (h, t, q) (incident-level m d i j ∙ rw (z, same-entity i j a b'))

  -- the indices of d→e are the pairs of its entities that touch
  indices-are : length (joined (true_rows m d e)) ≡ sum_over (λ s. length (keep (touches d e s) (entities m e))) (entities m d)
  unfolding true_rows rows_by
  indices-are =
      length-joined-map (λ i. keep (incident m d e i) (up_to (number m e))) (up_to (number m d))
      ∙ sum-agree (λ i. length (keep (incident m d e i) (up_to (number m e)))) (λ i. length (keep (touches d e (entity m d i)) (entities m e))) (up_to (number m d))
      (λ i x.
      ap length (keep-agree (incident m d e i) (λ j. touches d e (entity m d i) (entity m e j)) (up_to (number m e)) (λ j y. incident-touches i j (up_to-is i (number m d) x) (up_to-is j (number m e) y)))
      ∙ by_number m e (touches d e (entity m d i)))
      ∙ sum_number m d (λ s. length (keep (touches d e s) (entities m e)))

-- ---- two meshes with the same cells, no cell twice in either
module _ (m n : Mesh) (c : SameCells m n) (first : repeats m.cells ≡ false) (second : repeats n.cells ≡ false) where
  as_many : (d : ℕ) (p : List ℕ → Bool) → length (keep p (entities m d)) ≡ length (keep p (entities n d))
  as_many d p = distinct-keep p (entities m d) (entities n d) (entities-distinct m first d) (entities-distinct n second d) (there-too m n c d) (back-too m n c d)

  as-many-pairs : (d e : ℕ) (r : List ℕ → List ℕ → Bool) → sum_over (λ s. length (keep (r s) (entities m e))) (entities m d) ≡ sum_over (λ s. length (keep (r s) (entities n e))) (entities n d)
  as-many-pairs d e r =
      pairs r (entities m d) (entities m e)
      ∙ sum-agree (λ t. length (keep (λ s. r s t) (entities m d))) (λ t. length (keep (λ s. r s t) (entities n d))) (entities m e) (λ t i. as_many d (λ s. r s t))
      ∙ sym (pairs r (entities n d) (entities m e))
      ∙ sum-agree (λ s. length (keep (r s) (entities m e))) (λ s. length (keep (r s) (entities n e))) (entities n d) (λ s i. as_many e (r s))

  same-indices : (d e : ℕ) → length (joined (true_rows m d e)) ≡ length (joined (true_rows n d e))
  same-indices zero zero = ap (λ (rs : List (List ℕ)). length (joined rs)) (same_points m n c)
  same-indices (suc d) e =
      indices-are m first (suc d) e (λ p q. absurd (omega arith)) ∙ as-many-pairs (suc d) e (touches (suc d) e) ∙ sym (indices-are n second (suc d) e (λ p q. absurd (omega arith)))
  same-indices zero (suc e) =
      indices-are m first zero (suc e) (λ p q. absurd (omega arith)) ∙ as-many-pairs zero (suc e) (touches zero (suc e)) ∙ sym (indices-are n second zero (suc e) (λ p q. absurd (omega arith)))

  relation-long : (k : ℕ) → length (relation (true_at m k)) ≡ length (relation (true_at n k))
  unfolding true_at
  relation-long k =
      rw (length-relation (true_rows m (k / 4) (k % 4)), length-relation (true_rows n (k / 4) (k % 4)), length-true_rows m (k / 4) (k % 4), length-true_rows n (k / 4) (k % 4), same_numbers m n c first second (k / 4), same-indices (k / 4) (k % 4))

  relations-long : (h : ℕ → Bool) (k : ℕ) → length (relations h (true_at m) k) ≡ length (relations h (true_at n) k)
  unfolding relations
  relations-long h zero = refl
  relations-long h (suc k) =
      length-append (relations h (true_at m) k) (cond (h k) (relation (true_at m k)) [])
      ∙ go (h k) (relations-long h k) ∙ sym (length-append (relations h (true_at n) k) (cond (h k) (relation (true_at n k)) []))
    where
      go : (b : Bool) → length (relations h (true_at m) k) ≡ length (relations h (true_at n) k)
          → length (relations h (true_at m) k) + length (cond b (relation (true_at m k)) []) ≡ length (relations h (true_at n) k) + length (cond b (relation (true_at n k)) [])
      go true e = rw (e, relation-long k)
      go false e = rw e

  -- the words that the relations of a mask take, with the head
  pub same-room : (mask : ℕ) → true_used m mask ≡ true_used n mask
  unfolding true_used
  same-room mask = ap (λ (l : ℕ). 5 + l) (relations-long (named mask) 16)
