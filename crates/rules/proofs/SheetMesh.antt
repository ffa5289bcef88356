-- The sets of a cell among the entities of a mesh; and in a mesh of triangles whose edges are in one or two cells, an even number of the edges in one cell at each vertex.
use mathlib.Core.Path.{◌≡◌, refl, sym, ap, ◌∙◌}
use mathlib.Core.Logic.{◌⊎◌, inl, inr}
use mathlib.Core.Bool.{Bool, true, false, cond, ◌&&◌, ◌||◌}
use mathlib.Core.List.Memᴰ
use mathlib.Core.List.{List, [], ◌∷◌, Memᴰ as In}
use Prim.Native.Nat.{ℕ, ◌+◌, ◌%◌, ◌<◌}
use native.Mathlib.Omega.{arith}
use lib.ListN.{length, get_or}
use lib.Dec.{eqb}
use borrow.Author.Tests.{eqb-true}
use Rattle.rules.specs.Lists.{up_to, any_of, keep, has, inside, ascends, choose}
use Rattle.rules.specs.Truth.{Mesh, entities, number, entity, incident, true_row}
use Rattle.rules.proofs.Tests.{both, and-of, inside_of, inside-at}
use Rattle.rules.proofs.Keep.{keep-agree, keep-of, keep-is, up_to-is}
use Rattle.rules.proofs.Numbered.{three-members}
use Rattle.rules.proofs.Ascending.{ascends-two}
use Rattle.rules.proofs.Choose.{Chosen, chosen, choice, choose-distinct}
use Rattle.rules.proofs.Built.{built-distinct, built-is, built_of}
use Rattle.rules.proofs.Incidence.{incident-down, incident-up}
use Rattle.rules.proofs.TrueRows.{Formed, entities-mid, entities-top, entity-in}
use Rattle.rules.proofs.TrueFacts.{by_number}
use Rattle.rules.proofs.Counted.{count-cons, keep-keep, keep-swap, sum-even, sum_ones, keep-distinct, distinct-same, pairs}

-- ---- the sets of a cell
module _ (m : Mesh) (f : Formed m) (d : ℕ) (h : 0 < d) (k : d < m.dims) where
  -- an entity inside a cell is one of the cell's sets of d + 1, and each of these is an entity inside it
  set-in : (c s : List ℕ) → In c m.cells → In s (entities m d) → inside s c ≡ true → In s (choose (d + 1) c)
  set-in c s i j q = choice (d + 1) c s (f.up c i) (go (built-is d s [] m.cells (rw (entities-mid m d h k) at j)))
    where
      go : In s [] ⊎ ((b : List ℕ) × In b m.cells × In s (choose (d + 1) b)) → Chosen (d + 1) c s
      go (inl a) = absurd (Memᴰ.not-nil a)
      go (inr t) =
          let (b, a, e) = t in
          let g = chosen (d + 1) b s (f.up b a) e in
          record { up = g.up; size = g.size; within = inside-at s c q }

  set-of : (c s : List ℕ) → In c m.cells → In s (choose (d + 1) c) → In s (entities m d) × (inside s c ≡ true)
  set-of c s i j = (rw (entities-mid m d h k) (built_of d s c [] m.cells i j), inside_of s c (chosen (d + 1) c s (f.up c i) j).within)

  -- so of those that pass a test there are as many
  sets-counted : (p : List ℕ → Bool) (c : List ℕ) → In c m.cells → length (keep (λ s. p s && inside s c) (entities m d)) ≡ length (keep p (choose (d + 1) c))
  sets-counted p c i =
      distinct-same (keep (λ s. p s && inside s c) (entities m d)) (keep p (choose (d + 1) c))
      (keep-distinct (λ s. p s && inside s c) (entities m d) (rw (entities-mid m d h k) (built-distinct d [] m.cells tt)))
      (keep-distinct p (choose (d + 1) c) (choose-distinct (d + 1) c (f.up c i)))
      (λ s j.
      let (a, q) = keep-is (λ s. p s && inside s c) (entities m d) j in
      let (t, u) = both (p s) (inside s c) q in
      keep-of p (choose (d + 1) c) (set-in c s i a u) t)
      (λ s j.
      let (a, t) = keep-is p (choose (d + 1) c) j in
      let (b, u) = set-of c s i a in
      keep-of (λ s. p s && inside s c) (entities m d) b (and-of (p s) (inside s c) t u))

-- ---- a triangle
-- a vertex is in two of the three edges or in none
two-or-none : (x y z : Bool) → (x ≡ true → y ≡ true → ⊥) → (x ≡ true → z ≡ true → ⊥) → (y ≡ true → z ≡ true → ⊥)
    → (cond (x || (y || false)) 1 0 + (cond (x || (z || false)) 1 0 + (cond (y || (z || false)) 1 0 + 0))) % 2 ≡ 0
two-or-none true true z p q r = absurd (p refl refl)
two-or-none true false true p q r = absurd (q refl refl)
two-or-none true false false p q r = refl
two-or-none false true true p q r = absurd (r refl refl)
two-or-none false true false p q r = refl
two-or-none false false true p q r = refl
two-or-none false false false p q r = refl

module _ (a b c v : ℕ) (u : ascends (a ∷ b ∷ c ∷ []) ≡ true) where
  ab : a < b
  ab = ascends-two (a ∷ b ∷ c ∷ []) 0 1 u (omega arith) (omega arith)

  bc : b < c
  bc = ascends-two (a ∷ b ∷ c ∷ []) 1 2 u (omega arith) (omega arith)

  even-sides : length (keep (has v) (choose 2 (a ∷ b ∷ c ∷ []))) % 2 ≡ 0
  unfolding choose
  even-sides =
      rw (count-cons (has v) (a ∷ b ∷ []) ((a ∷ c ∷ []) ∷ (b ∷ c ∷ []) ∷ []), count-cons (has v) (a ∷ c ∷ []) ((b ∷ c ∷ []) ∷ []), count-cons (has v) (b ∷ c ∷ []) [])
      (unfold has any_of keep in two-or-none (eqb v a) (eqb v b) (eqb v c) (λ p q. omega (arith, eqb-true v a p, eqb-true v b q, ab)) (λ p q. omega (arith, eqb-true v a p, eqb-true v c q, ab, bc)) (λ p q. omega (arith, eqb-true v b p, eqb-true v c q, bc)))

triangle-even : (c : List ℕ) (v : ℕ) → ascends c ≡ true → length c ≡ 3 → length (keep (has v) (choose 2 c)) % 2 ≡ 0
triangle-even c v u l = let e = three-members c l in rw e (even-sides (get_or c 0 0) (get_or c 1 0) (get_or c 2 0) v (rw e at u))

triangle-three : (c : List ℕ) → length c ≡ 3 → length (choose 2 c) ≡ 3
unfolding choose
triangle-three c l = rw (three-members c l)

keep_all : (xs : List (List ℕ)) → keep (λ s. true) xs ≡ xs
unfolding keep
keep_all [] = refl
keep_all (x ∷ xs) = rw (keep_all xs)

-- ---- a mesh of triangles
module _ (m : Mesh) (f : Formed m) (two : m.dims ≡ 2) where
  cell_in : (c : ℕ) → c < number m 2 → In (entity m 2 c) m.cells
  cell_in c l = let e : entities m 2 ≡ m.cells = ap (entities m) (sym two) ∙ entities-top m f.low in rw e at (entity-in m 2 c l)

  -- the row of a cell in 2→1 has three edges
  pub row-three : (c : ℕ) → c < number m 2 → length (true_row m 2 1 c) ≡ 3
  unfolding true_row
  row-three c l =
      let s = entity m 2 c in
      let i = cell_in c l in
      ap length (keep-agree (incident m 2 1 c) (λ k. inside (entity m 1 k) s) (up_to (number m 1)) (λ k j. incident-down m 2 1 c k (omega arith)))
      ∙ by_number m 1 (λ t. inside t s)
      ∙ sets-counted m f 1 (omega arith) (omega arith) (λ t. true) s i
      ∙ ap length (keep_all (choose 2 s)) ∙ triangle-three s (omega (arith, f.size s i))

  -- a cell has an even number of edges at each vertex
  at-cell : (v c : ℕ) → c < number m 2 → length (keep (λ k. incident m 1 2 k c) (keep (λ k. has v (entity m 1 k)) (up_to (number m 1)))) % 2 ≡ 0
  at-cell v c l =
      let s = entity m 2 c in
      let i = cell_in c l in
      ap (λ (n : ℕ). n % 2)
      (ap length
      (keep-keep (λ k. incident m 1 2 k c) (λ k. has v (entity m 1 k)) (up_to (number m 1))
      ∙ keep-agree (λ k. has v (entity m 1 k) && incident m 1 2 k c) (λ k. has v (entity m 1 k) && inside (entity m 1 k) s) (up_to (number m 1)) (λ k j. rw (incident-up m 1 2 k c (omega arith))))
      ∙ by_number m 1 (λ t. has v t && inside t s)
      ∙ sets-counted m f 1 (omega arith) (omega arith) (has v) s i)
      ∙ triangle-even s v (f.up s i) (omega (arith, f.size s i))

  -- so where each edge is in one or two cells, the edges at a vertex that are in one are even
  pub even-edges : ((k : ℕ) → k < number m 1 → (length (true_row m 1 2 k) ≡ 1) ⊎ (length (true_row m 1 2 k) ≡ 2)) → (v : ℕ)
      → length (keep (λ k. has v (entity m 1 k)) (keep (λ k. eqb (length (true_row m 1 2 k)) 1) (up_to (number m 1)))) % 2 ≡ 0
  unfolding true_row
  even-edges h v =
      let at : ℕ → Bool = λ k. has v (entity m 1 k) in
      let row : ℕ → List ℕ = λ k. keep (incident m 1 2 k) (up_to (number m 2)) in
      ap (λ (ks : List ℕ). length ks % 2) (keep-swap at (λ k. eqb (length (row k)) 1) (up_to (number m 1)))
      ∙ sym (sum_ones (λ k. length (row k)) (keep at (up_to (number m 1))) (λ k i. h k (up_to-is k (number m 1) (keep-is at (up_to (number m 1)) i).0)))
      ∙ ap (λ (n : ℕ). n % 2) (pairs (incident m 1 2) (keep at (up_to (number m 1))) (up_to (number m 2)))
      ∙ sum-even (λ c. length (keep (λ k. incident m 1 2 k c) (keep at (up_to (number m 1))))) (up_to (number m 2)) (λ c i. at-cell v c (up_to-is c (number m 2) i))
