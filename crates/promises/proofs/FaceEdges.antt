-- Entities inside an entity of a well formed mesh: every ascending choice of its vertices is one, and the sides of three vertices are three.
use mathlib.Core.Path.{◌≡◌, refl, sym, ap, ◌∙◌}
use mathlib.Core.Logic.{◌⊎◌, inl, inr}
use mathlib.Core.Bool.{true, false}
use mathlib.Core.List.Memᴰ
use mathlib.Core.List.Memᴰ.{head as here}
use mathlib.Core.List.Memᴰ.{tail as there}
use mathlib.Core.List.{List, [], ◌∷◌, Memᴰ as In}
use Prim.Native.Nat.{ℕ, ◌+◌, ◌≤◌, ◌<◌}
use native.Mathlib.Omega.{arith}
use lib.ListN.{length}
use lib.Dec.{ltb, eqb}
use borrow.Author.Tests.{ltb-true, lt-ltb, eqb-true, eqb-false}
use Rattle.rules.specs.Lists.{ascends, inside, has, choose}
use Rattle.rules.specs.Made.{built}
use Rattle.rules.specs.Truth.{Mesh, entities, number, entity, true_row}
use Rattle.rules.proofs.Tests.{cases, left, right, inside-at}
use Rattle.rules.proofs.Searched.{place_in}
use Rattle.rules.proofs.Choose.{chosen, choice}
use Rattle.rules.proofs.Built.{built_of, built-is}
use Rattle.rules.proofs.Incidence.{incident-down}
use Rattle.rules.proofs.TrueRows.{Formed, entities-top, entities-mid, entity-in, has-incident}

module _ (m : Mesh) (f : Formed m) where
  -- an entity lies in some cell
  pub in_cell : (e i : ℕ) → 0 < e → e ≤ m.dims → i < number m e → (c : List ℕ) × In c m.cells × ((v : ℕ) → In v (entity m e i) → In v c)
  in_cell e i p h l = go (cases (eqb e m.dims))
    where
      from-built : In (entity m e i) [] ⊎ ((c : List ℕ) × In c m.cells × In (entity m e i) (choose (e + 1) c)) → (c : List ℕ) × In c m.cells × ((v : ℕ) → In v (entity m e i) → In v c)
      from-built (inl j) = absurd (Memᴰ.not-nil j)
      from-built (inr b) = let (c, j, q) = b in (c, j, (chosen (e + 1) c (entity m e i) (f.up c j) q).within)

      go : (eqb e m.dims ≡ true) ⊎ (eqb e m.dims ≡ false) → (c : List ℕ) × In c m.cells × ((v : ℕ) → In v (entity m e i) → In v c)
      go (inl t) =
          let q = eqb-true e m.dims t in
          let u : entities m e ≡ m.cells = ap (entities m) q ∙ entities-top m f.low in
          (entity m e i, rw u at (entity-in m e i l), (λ v j. j))
      go (inr t) =
          let k : e < m.dims = omega (arith, eqb-false e m.dims t) in
          from-built (built-is e (entity m e i) [] m.cells (rw (entities-mid m e p k) at (entity-in m e i l)))

  -- an ascending choice of an entity's vertices is an entity
  pub sub-entity : (d e i : ℕ) (s : List ℕ) → 0 < d → d < m.dims → 0 < e → e ≤ m.dims → i < number m e
      → ascends s ≡ true → length s ≡ d + 1 → ((v : ℕ) → In v s → In v (entity m e i)) → (j : ℕ) × (j < number m d) × (entity m d j ≡ s)
  unfolding entity number
  sub-entity d e i s p q r h l up size within =
      let (c, k, w) = in_cell e i r h l in
      let t : In s (built d [] m.cells) = built_of d s c [] m.cells k (choice (d + 1) c s (f.up c k) (record { up = up; size = size; within = λ v j. w v (within v j) })) in
      let (j, b, x) = place_in {x = s} (entities m d) [] (rw (entities-mid m d p q) t) in
      (j, b, sym x)

  -- an entity is in another's row exactly if it lies inside it
  pub listed-inside : (d e i j : ℕ) → e < d → j < number m e → has j (true_row m d e i) ≡ inside (entity m e j) (entity m d i)
  listed-inside d e i j h l = has-incident m d e i j l ∙ incident-down m d e i j h

-- vertices that ascend, by two of them at a time
pub two_up : (p q : ℕ) → p < q → ascends (p ∷ q ∷ []) ≡ true
unfolding ascends
two_up p q x = rw (lt-ltb p q x)

pub three_up : (p q r : ℕ) → p < q → q < r → ascends (p ∷ q ∷ r ∷ []) ≡ true
unfolding ascends
three_up p q r x y = rw (lt-ltb p q x, lt-ltb q r y)

pub three-apart : (a b c : ℕ) → ascends (a ∷ b ∷ c ∷ []) ≡ true → (a < b) × (b < c)
unfolding ascends
three-apart a b c u = search (left, right, ltb-true) depth 6

pub four-apart : (a b c d : ℕ) → ascends (a ∷ b ∷ c ∷ d ∷ []) ≡ true → (a < b) × (b < c) × (c < d)
unfolding ascends
four-apart a b c d u = search (left, right, ltb-true) depth 8

-- two members of an ascending list of three, ascending, are its first and second, second and third, or first and third
one_of : (p a b c : ℕ) → In p (a ∷ b ∷ c ∷ []) → (p ≡ a) ⊎ ((p ≡ b) ⊎ (p ≡ c))
one_of p a b c (here e) = inl e
one_of p a b c (there (here e)) = inr (inl e)
one_of p a b c (there (there (here e))) = inr (inr e)
one_of p a b c (there (there (there n))) = absurd (Memᴰ.not-nil n)

two-of : (a b c p q : ℕ) → a < b → b < c → p < q → (p ≡ a) ⊎ ((p ≡ b) ⊎ (p ≡ c)) → (q ≡ a) ⊎ ((q ≡ b) ⊎ (q ≡ c))
    → (p ∷ q ∷ [] ≡ a ∷ b ∷ []) ⊎ ((p ∷ q ∷ [] ≡ b ∷ c ∷ []) ⊎ (p ∷ q ∷ [] ≡ a ∷ c ∷ []))
two-of a b c p q u v l (inl e) (inl g) = absurd (omega arith)
two-of a b c p q u v l (inl e) (inr (inl g)) = inl (rw (e, g))
two-of a b c p q u v l (inl e) (inr (inr g)) = inr (inr (rw (e, g)))
two-of a b c p q u v l (inr (inl e)) (inl g) = absurd (omega arith)
two-of a b c p q u v l (inr (inl e)) (inr (inl g)) = absurd (omega arith)
two-of a b c p q u v l (inr (inl e)) (inr (inr g)) = inr (inl (rw (e, g)))
two-of a b c p q u v l (inr (inr e)) (inl g) = absurd (omega arith)
two-of a b c p q u v l (inr (inr e)) (inr (inl g)) = absurd (omega arith)
two-of a b c p q u v l (inr (inr e)) (inr (inr g)) = absurd (omega arith)

pub pair-of-three : (a b c : ℕ) (e : List ℕ) → a < b → b < c → ascends e ≡ true → length e ≡ 2 → inside e (a ∷ b ∷ c ∷ []) ≡ true
    → (e ≡ a ∷ b ∷ []) ⊎ ((e ≡ b ∷ c ∷ []) ⊎ (e ≡ a ∷ c ∷ []))
unfolding ascends
pair-of-three a b c [] x y v l s = absurd (omega arith)
pair-of-three a b c (p ∷ []) x y v l s = absurd (omega arith)
pair-of-three a b c (p ∷ q ∷ []) x y v l s =
    let w = inside-at (p ∷ q ∷ []) (a ∷ b ∷ c ∷ []) s in
    two-of a b c p q x y (ltb-true p q (left (ltb p q) true v)) (one_of p a b c (w p (here refl))) (one_of q a b c (w q (there (here refl))))
pair-of-three a b c (p ∷ q ∷ r ∷ rs) x y v l s = absurd (omega arith)
