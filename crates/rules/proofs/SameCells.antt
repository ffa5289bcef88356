-- The same cells in another order: the same entities, as many of each dimension, the same incidence, 0→0 and Euler number.
use mathlib.Core.Path.{◌≡◌, refl, sym, ap, ◌∙◌}
use mathlib.Core.Logic.{◌⊎◌, inl, inr}
use mathlib.Core.Bool.{Bool, true, false, cond, ◌&&◌}
use mathlib.Core.List.{List, [], ◌∷◌, map, Memᴰ as In}
use mathlib.Core.List.Memᴰ
use Prim.Native.Nat.{ℕ, ◌+◌, ◌<◌}
use native.Mathlib.Omega.{arith}
use lib.Dec.{eqb, ltb}
use borrow.Author.Tests.{eqb-true, eq-eqb, ltb-true, ltb-false}
use Rattle.rules.specs.Lists.{up_to, any_of, all_of, has, meets, same, repeats, choose, members_below}
use Rattle.rules.specs.Made.{built}
use Rattle.rules.specs.Calls.{alternating}
use Rattle.rules.specs.Truth.{Mesh, entities, number, entity, incident, true_rows, used_in, true_euler}
use Rattle.rules.specs.SameCells.{among, same_sets, SameCells}
use Rattle.rules.proofs.Tests.{cases, agree, both, and-of, any-of, any-is, all-of, all-at, same-is, same_refl}
use Rattle.rules.proofs.Keep.{keep-agree}
use Rattle.rules.proofs.Numbered.{rows_by-agree}
use Rattle.rules.proofs.Searched.{place_in}
use Rattle.rules.proofs.Counted.{distinct-same}
use Rattle.rules.proofs.Built.{built-is, built_of}
use Rattle.rules.proofs.Incidence.{incident-down, incident-up, incident-level}
use Rattle.rules.proofs.TrueRows.{number-low, low-entity, entity-in}
use Rattle.rules.proofs.TrueFacts.{entities-distinct, one_place}

-- ---- sets of vertex sets, as tests
among_of : {s : List ℕ} {ss : List (List ℕ)} → In s ss → among ss s ≡ true
unfolding among
among_of {s} i = any-of (same s) i (same_refl s)

among-is : (ss : List (List ℕ)) (s : List ℕ) → among ss s ≡ true → In s ss
unfolding among
among-is ss s h = let (t, i, e) = any-is (same s) ss h in Memᴰ.cast (same-is s t e) i

module _ (ss ts : List (List ℕ)) where
  sets_of : ((s : List ℕ) → In s ss → In s ts) → ((s : List ℕ) → In s ts → In s ss) → same_sets ss ts ≡ true
  unfolding same_sets
  sets_of f g = and-of (all_of (among ts) ss) (all_of (among ss) ts) (all-of (among ts) ss (λ s i. among_of (f s i))) (all-of (among ss) ts (λ s i. among_of (g s i)))

  sets-there : same_sets ss ts ≡ true → (s : List ℕ) → In s ss → In s ts
  unfolding same_sets
  sets-there h s i = among-is ts s (all-at (among ts) (both (all_of (among ts) ss) (all_of (among ss) ts) h).0 i)

  sets-back : same_sets ss ts ≡ true → (s : List ℕ) → In s ts → In s ss
  unfolding same_sets
  sets-back h s i = among-is ss s (all-at (among ss) (both (all_of (among ts) ss) (all_of (among ss) ts) h).1 i)

  -- a test that some set passes
  sets-any : (p : List ℕ → Bool) → same_sets ss ts ≡ true → any_of p ss ≡ any_of p ts
  sets-any p h =
      agree (any_of p ss) (any_of p ts)
      (λ a. let (s, i, e) = any-is p ss a in any-of p (sets-there h s i) e)
      (λ a. let (s, i, e) = any-is p ts a in any-of p (sets-back h s i) e)

-- ---- what Build gives depends on which cells there are, up to its order
built-within : (d : ℕ) (cs bs : List (List ℕ)) → ((c : List ℕ) → In c cs → In c bs) → (s : List ℕ) → In s (built d [] cs) → In s (built d [] bs)
built-within d cs bs f s i = go (built-is d s [] cs i)
  where
    go : In s [] ⊎ ((c : List ℕ) × In c cs × In s (choose (d + 1) c)) → In s (built d [] bs)
    go (inl j) = absurd (Memᴰ.not-nil j)
    go (inr b) = let (c, j, q) = b in built_of d s c [] bs (f c j) q

-- each set of one mesh is a set of the other
within : (m n : Mesh) → m.dims ≡ n.dims → m.vertices ≡ n.vertices → ((c : List ℕ) → In c m.cells → In c n.cells)
    → (d : ℕ) (s : List ℕ) → In s (entities m d) → In s (entities n d)
unfolding entities
within m n e v f d s = rw (e, v) (go (eqb d 0) (eqb d n.dims))
  where
    go : (x y : Bool) → In s (cond x (map (λ v. v ∷ []) (up_to n.vertices)) (cond y m.cells (built d [] m.cells)))
        → In s (cond x (map (λ v. v ∷ []) (up_to n.vertices)) (cond y n.cells (built d [] n.cells)))
    go true y i = i
    go false true i = f s i
    go false false i = built-within d m.cells n.cells f s i

-- ---- two meshes with the same cells
pub cells-back : (m n : Mesh) → SameCells m n → SameCells n m
cells-back m n c = record {
  dims = sym c.dims;
  vertices = sym c.vertices;
  cells = sets_of n.cells m.cells (sets-back m.cells n.cells c.cells) (sets-there m.cells n.cells c.cells);
}

module _ (m n : Mesh) (c : SameCells m n) where
  pub there-too : (d : ℕ) (s : List ℕ) → In s (entities m d) → In s (entities n d)
  there-too d s i = within m n c.dims c.vertices (sets-there m.cells n.cells c.cells) d s i

  pub back-too : (d : ℕ) (s : List ℕ) → In s (entities n d) → In s (entities m d)
  back-too d s i = within n m (sym c.dims) (sym c.vertices) (sets-back m.cells n.cells c.cells) d s i

  -- the entities of each dimension are the same sets
  pub same-entities : (d : ℕ) → same_sets (entities m d) (entities n d) ≡ true
  same-entities d = sets_of (entities m d) (entities n d) (there-too d) (back-too d)

  -- each has one with the same vertices in the other mesh
  pub partner : (d i : ℕ) → i < number m d → (k : ℕ) × (k < number n d) × (entity n d k ≡ entity m d i)
  unfolding number entity
  partner d i l = let (k, x, e) = place_in (entities n d) [] (there-too d (entity m d i) (entity-in m d i l)) in (k, x, sym e)

  same_count : number m 0 ≡ number n 0
  same_count = rw (number-low m, number-low n, c.vertices)

  -- 0→0 is the same, row for row
  pub same_points : true_rows m 0 0 ≡ true_rows n 0 0
  unfolding true_rows
  same_points =
      rw same_count
      (rows_by-agree (number n 0) (number n 0) (incident m 0 0) (incident n 0 0)
      (λ i j a b. rw (incident-level m 0 i j, incident-level n 0 i j, sets-any m.cells n.cells (λ s. has i s && has j s) c.cells)))

  -- a vertex has the same number in both
  same-vertex : (i k : ℕ) → i < number m 0 → k < number n 0 → entity m 0 i ≡ entity n 0 k → i ≡ k
  same-vertex i k a x p =
      let u : i < m.vertices = rw number-low at a in
      let v : k < n.vertices = rw number-low at x in
      let q : i ∷ [] ≡ k ∷ [] = sym (low-entity m i u) ∙ p ∙ low-entity n k v in
      cc

  -- the same vertices lie in some cell
  same-used : used_in m ≡ used_in n
  unfolding used_in members_below
  same-used =
      rw c.vertices
      (keep-agree (λ v. any_of (has v) m.cells) (λ v. any_of (has v) n.cells) (up_to n.vertices) (λ v i. sets-any m.cells n.cells (has v) c.cells))

  -- where no mesh has a cell twice: as many entities, and the same incidence
  module _ (first : repeats m.cells ≡ false) (second : repeats n.cells ≡ false) where
    pub same_numbers : (d : ℕ) → number m d ≡ number n d
    unfolding number
    same_numbers d =
        distinct-same (entities m d) (entities n d) (entities-distinct m first d) (entities-distinct n second d) (there-too d) (back-too d)

    pub same-euler : true_euler m ≡ true_euler n
    unfolding true_euler alternating
    same-euler = rw (same-used, same_numbers 1, same_numbers 2, same_numbers 3, c.dims)

    -- two are one entity in one exactly when those with the same vertices are in the other
    one-entity : (d i j k l : ℕ) → i < number m d → j < number m d → k < number n d → l < number n d
        → entity m d i ≡ entity n d k → entity m d j ≡ entity n d l → eqb j i ≡ eqb l k
    one-entity d i j k l a b x y p q =
        agree (eqb j i) (eqb l k)
        (λ h. eq-eqb l k (one_place n second d l k y x (sym q ∙ ap (entity m d) (eqb-true j i h) ∙ p)))
        (λ h. eq-eqb j i (one_place m first d j i b a (q ∙ ap (entity n d) (eqb-true l k h) ∙ sym p)))

    -- two are incident in one exactly when those with the same vertices are in the other
    pub same-incidence : (d e i j k l : ℕ) → i < number m d → j < number m e → k < number n d → l < number n e
        → entity m d i ≡ entity n d k → entity m e j ≡ entity n e l → incident m d e i j ≡ incident n d e k l
    same-incidence d e i j k l a b x y p q = go (cases (ltb e d)) (cases (ltb d e))
      where
        points : (z : Bool) → eqb d 0 ≡ z → d ≡ e
            → cond z (any_of (λ s. has i s && has j s) m.cells) (meets (entity m d i) (entity m d j)) ≡ cond z (any_of (λ s. has k s && has l s) n.cells) (meets (entity n d k) (entity n d l))
        points true h r =
            let o = eqb-true d 0 h in
            let f : i ≡ k = same-vertex i k (rw o at a) (rw o at x) (rw o at p) in
            let g : j ≡ l = same-vertex j l (rw (← r, o) at b) (rw (← r, o) at y) (rw (← r, o) at q) in
            rw (f, g) (sets-any m.cells n.cells (λ s. has k s && has l s) c.cells)
        points false h r = let g : entity m d j ≡ entity n d l = rw (← r) at q in rw (p, g)

        level : d ≡ e → incident m d e i j ≡ incident n d e k l
        level r =
            let u : j < number m d = rw (← r) at b in
            let v : l < number n d = rw (← r) at y in
            let g : entity m d j ≡ entity n d l = rw (← r) at q in
            rw (← r) (rw (incident-level m d i j, incident-level n d k l, one-entity d i j k l a u x v p g, points (eqb d 0) refl r))

        go : (ltb e d ≡ true) ⊎ (ltb e d ≡ false) → (ltb d e ≡ true) ⊎ (ltb d e ≡ false) → incident m d e i j ≡ incident n d e k l
        go (inl h) t = let o = ltb-true e d h in rw (incident-down m d e i j o, incident-down n d e k l o, p, q)
        go (inr h) (inl t) = let o = ltb-true d e t in rw (incident-up m d e i j o, incident-up n d e k l o, p, q)
        go (inr h) (inr t) = let o = ltb-false e d h in let w = ltb-false d e t in level (omega arith)
