-- On a book as in demand 3: a face's steps are those written for the edges in its row of 2→1, and two faces with a common edge have one step for it.
use mathlib.Core.Path.{◌≡◌, refl, sym, ap, ◌∙◌, subst}
use mathlib.Core.Logic.{◌⊎◌, inl, inr}
use mathlib.Core.Bool.{true}
use mathlib.Core.List.Memᴰ
use mathlib.Core.List.Memᴰ.{head as here}
use mathlib.Core.List.Memᴰ.{tail as there}
use mathlib.Core.List.{List, [], ◌∷◌, map, Memᴰ as In}
use Prim.Native.Nat.{ℕ, ◌/◌, ◌<◌}
use native.Mathlib.Omega.{arith}
use lib.ListN.{length, get_or}
use lib.IntN.{ℤ, pos}
use lib.Ieee.{Float}
use borrow.Author.Tests.{eq-eqb}
use Rattle.rules.specs.Lists.{up_to, ascends, inside, has, choose}
use Rattle.rules.specs.Book.{key, held, count, row_of, rows_of}
use Rattle.rules.specs.Truth.{Mesh, number, entity, true_row}
use Rattle.rules.specs.Phases.{turns}
use Rattle.rules.specs.Closures.{edge_step, edge_byte, face_closure, steps_of, bytes_of, closures_of, close_number, accepted_for, closures_after, steps_after, bytes_after}
use Rattle.rules.proofs.Tests.{inside_of}
use Rattle.rules.proofs.Numbered.{get_d_map, length-rows, get_d_rows, three-members}
use Rattle.rules.proofs.Accepted.{Closes, closes}
use Rattle.rules.proofs.TrueFacts.{rows-valid}
use Rattle.rules.proofs.TrueRows.{good, vertex-row}
use Rattle.promises.specs.Faces.{EdgeOf, EdgesOf, StepsAgree, OneStep}
use Rattle.promises.proofs.Kept.{Kept, kept-dim, reached-kept}
use Rattle.promises.proofs.DemandThree.{first_count, row-true}
use Rattle.promises.proofs.FaceEdges.{sub-entity, listed-inside, two_up, three-apart, pair-of-three}

-- what is written for row j of a relation to the vertices
written_at {ℓ} : {A : Type ℓ} (g : List ℕ → A) (z : A) (ws : List ℕ) (k j : ℕ) → j < count ws (k / 4) → get_or (map g (rows_of ws k)) j z ≡ g (row_of ws k j)
unfolding rows_of
written_at g z ws k j l =
    get_d_map g (map (row_of ws k) (up_to (count ws (k / 4)))) j [] z (rw (length-rows (row_of ws k) (count ws (k / 4))) l) ∙ ap g (get_d_rows (row_of ws k) (count ws (k / 4)) j [] l)

-- a book as in demand 3, and lists for which the call is accepted
module _ (m : Mesh) (ws : List ℕ) (k : Kept m ws) (counts closures : List ℤ) (steps : List Float) (bytes : List ℕ)
    (z : close_number ws counts (length closures) (length steps) (length bytes) ≡ 0) where
  passes : Closes ws counts (length closures) (length steps) (length bytes)
  passes = closes ws counts (length closures) (length steps) (length bytes) z

  pub two : 1 < m.dims
  two = omega (arith, k.formed.low, passes.over, kept-dim m ws k)

  pub faces : count ws 2 ≡ number m 2
  faces = first_count m ws k 2 0 (omega arith) passes.faces

  edges : count ws 1 ≡ number m 1
  edges = first_count m ws k 1 0 (omega arith) passes.edges

  pub face-row : (i : ℕ) → i < number m 2 → row_of ws (key 2 0) i ≡ entity m 2 i
  face-row i l = row-true m ws k 2 0 (omega arith) passes.faces i l ∙ vertex-row m k.formed 2 i (omega arith) (omega (arith, two)) l

  edge_row : (j : ℕ) → j < number m 1 → row_of ws (key 1 0) j ≡ entity m 1 j
  edge_row j l = row-true m ws k 1 0 (omega arith) passes.edges j l ∙ vertex-row m k.formed 1 j (omega arith) (omega (arith, two)) l

  -- what the lists have for face i and for edge j
  pub closure-at : (i : ℕ) → i < count ws 2 → get_or (closures_after ws counts closures steps bytes) i (pos 0) ≡ face_closure counts (row_of ws (key 2 0) i)
  unfolding closures_after accepted_for closures_of key
  closure-at i l = rw (eq-eqb (close_number ws counts (length closures) (length steps) (length bytes)) 0 z) (written_at (face_closure counts) (pos 0) ws 8 i l)

  step-at : (j : ℕ) → j < count ws 1 → get_or (steps_after ws counts closures steps bytes) j (turns (pos 0)) ≡ edge_step counts (row_of ws (key 1 0) j)
  unfolding steps_after accepted_for steps_of key
  step-at j l = rw (eq-eqb (close_number ws counts (length closures) (length steps) (length bytes)) 0 z) (written_at (edge_step counts) (turns (pos 0)) ws 4 j l)

  byte_at : (j : ℕ) → j < count ws 1 → get_or (bytes_after ws counts closures steps bytes) j 0 ≡ edge_byte counts (row_of ws (key 1 0) j)
  unfolding bytes_after accepted_for bytes_of key
  byte_at j l = rw (eq-eqb (close_number ws counts (length closures) (length steps) (length bytes)) 0 z) (written_at (edge_byte counts) 0 ws 4 j l)

  module _ (h : held ws (key 2 1) ≡ true) where
    abbrev Edge : ℕ → ℕ → ℕ → ℕ → Type 0
    Edge = EdgeOf ws counts (steps_after ws counts closures steps bytes) (bytes_after ws counts closures steps bytes)

    listed-row : (i : ℕ) → i < number m 2 → row_of ws (key 2 1) i ≡ true_row m 2 1 i
    listed-row i l = row-true m ws k 2 1 (omega (arith, two)) h i l

    edge_of : (i j p q : ℕ) → i < number m 2 → j < number m 1 → entity m 1 j ≡ p ∷ q ∷ [] → has j (true_row m 2 1 i) ≡ true → Edge i p q j
    edge_of i j p q l n e t =
        let r : row_of ws (key 1 0) j ≡ p ∷ q ∷ [] = edge_row j n ∙ e in
        let b : j < count ws 1 = rw edges n in
        record {
          below = b;
          listed = rw (listed-row i l) t;
          ends = r;
          step = step-at j b ∙ ap (edge_step counts) r;
          byte = byte_at j b ∙ ap (edge_byte counts) r;
        }

    edge-between : (i p q : ℕ) → i < number m 2 → p < q → In p (entity m 2 i) → In q (entity m 2 i) → (j : ℕ) × Edge i p q j
    edge-between i p q l a x y =
        let (j, n, e) = sub-entity m k.formed 1 2 i (p ∷ q ∷ []) (omega arith) two (omega arith) (omega (arith, two)) l (two_up p q a) refl both in
        (j, edge_of i j p q l n e (listed-inside m k.formed 2 1 i j (omega arith) n ∙ rw e (inside_of (p ∷ q ∷ []) (entity m 2 i) both)))
      where
        both : (v : ℕ) → In v (p ∷ q ∷ []) → In v (entity m 2 i)
        both v (here e) = rw e x
        both v (there (here e)) = rw e y
        both v (there (there n)) = absurd (Memᴰ.not-nil n)

    pub edges-of : (i a b c : ℕ) → i < number m 2 → entity m 2 i ≡ a ∷ b ∷ c ∷ [] → EdgesOf ws counts (steps_after ws counts closures steps bytes) (bytes_after ws counts closures steps bytes) i a b c
    edges-of i a b c l e =
        let up : ascends (a ∷ b ∷ c ∷ []) ≡ true = ap ascends (sym e) ∙ (good m k.formed 2 i (omega arith) (omega (arith, two)) l).up in
        let (x, y) = three-apart a b c up in
        let first : In a (entity m 2 i) = rw e (here refl) in
        let second : In b (entity m 2 i) = rw e (there (here refl)) in
        let third : In c (entity m 2 i) = rw e (there (there (here refl))) in
        record {
          first = edge-between i a b l x first second;
          second = edge-between i b c l y second third;
          third = edge-between i a c l (omega (arith, x, y)) first third;
          only = λ j t. sides j x y (rw (listed-row i l) at t);
        }
      where
        sides : (j : ℕ) → a < b → b < c → has j (true_row m 2 1 i) ≡ true → Edge i a b j ⊎ (Edge i b c j ⊎ Edge i a c j)
        sides j x y t =
            let n = rows-valid m 2 1 i j t in
            let g = good m k.formed 1 j (omega arith) (omega (arith, two)) n in
            let s : inside (entity m 1 j) (a ∷ b ∷ c ∷ []) ≡ true = ap (inside (entity m 1 j)) (sym e) ∙ sym (listed-inside m k.formed 2 1 i j (omega arith) n) ∙ t in
            elim (pair-of-three a b c (entity m 1 j) x y g.up g.size s) [
              | inl p ↦ inl (edge_of i j a b l n p t)
              | inr (inl p) ↦ inr (inl (edge_of i j b c l n p t))
              | inr (inr p) ↦ inr (inr (edge_of i j a c l n p t))
            ]

pub steps-agree : StepsAgree
steps-agree m ws r counts closures steps bytes z i a b c l e =
    let k = reached-kept m ws r in
    let n : i < number m 2 = rw (faces m ws k counts closures steps bytes z) at l in (
      closure-at m ws k counts closures steps bytes z i l ∙ ap (face_closure counts) e,
      λ h. edges-of m ws k counts closures steps bytes z h i a b c n (sym (face-row m ws k counts closures steps bytes z i n) ∙ e),
    )

-- an edge in a face's row is a side of it, and this is its step
record SideOf (ws : List ℕ) (counts : List ℤ) (steps : List Float) (i j : ℕ) : Type 0 where
  low : ℕ
  high : ℕ
  ends : row_of ws (key 1 0) j ≡ low ∷ high ∷ []
  side : In (low ∷ high ∷ []) (choose 2 (row_of ws (key 2 0) i))
  step : get_or steps j (turns (pos 0)) ≡ edge_step counts (low ∷ high ∷ [])

side-of-three : (ws : List ℕ) (counts : List ℤ) (steps : List Float) (bytes : List ℕ) (i a b c j : ℕ) → row_of ws (key 2 0) i ≡ a ∷ b ∷ c ∷ []
    → EdgesOf ws counts steps bytes i a b c → has j (row_of ws (key 2 1) i) ≡ true → SideOf ws counts steps i j
unfolding choose
side-of-three ws counts steps bytes i a b c j e g t = elim (g.only j t) [
  | inl x ↦ record { low = a; high = b; ends = x.ends; side = rw e (here refl); step = x.step }
  | inr (inl x) ↦ record { low = b; high = c; ends = x.ends; side = rw e (there (there (here refl))); step = x.step }
  | inr (inr x) ↦ record { low = a; high = c; ends = x.ends; side = rw e (there (here refl)); step = x.step }
]

pub one-step : OneStep
one-step m ws r counts closures steps bytes z h i f j l n s t =
    let x = side i l s in
    let y = side f n t in
    (x.low, x.high, x.side, subst (λ (v : List ℕ). In v (choose 2 (row_of ws (key 2 0) f))) (sym y.ends ∙ x.ends) y.side, x.step)
  where
    k : Kept m ws
    k = reached-kept m ws r

    side : (i : ℕ) → i < count ws 2 → has j (row_of ws (key 2 1) i) ≡ true → SideOf ws counts (steps_after ws counts closures steps bytes) i j
    side i l t =
        let n : i < number m 2 = rw (faces m ws k counts closures steps bytes z) at l in
        let row = row_of ws (key 2 0) i in
        let e : row ≡ entity m 2 i = face-row m ws k counts closures steps bytes z i n in
        let w : row ≡ get_or row 0 0 ∷ get_or row 1 0 ∷ get_or row 2 0 ∷ [] = three-members row (ap length e ∙ (good m k.formed 2 i (omega arith) (omega (arith, two m ws k counts closures steps bytes z)) n).size) in
        side-of-three ws counts (steps_after ws counts closures steps bytes) (bytes_after ws counts closures steps bytes) i (get_or row 0 0) (get_or row 1 0) (get_or row 2 0) j w
        (edges-of m ws k counts closures steps bytes z h i (get_or row 0 0) (get_or row 1 0) (get_or row 2 0) n (sym e ∙ w)) t
