-- The candidates of a triangle and of a tetrahedron, in lexicographic order.
use mathlib.Core.Path.{◌≡◌}
use mathlib.Core.List.{List, [], ◌∷◌, map}
use Prim.Native.Nat.{ℕ, ◌+◌}
use native.Mathlib.Omega.{arith}
use borrow.Author.Tests.{eq-eqb, ne_eqb}
use lib.ListN.{length, get_or, take}
use Rattle.rules.specs.Lists.{choose}
use Rattle.rules.specs.Book.{most}
use Rattle.rules.proofs.Numbered.{four-members}
use Rattle.building.specs.Sets.{padded}
use Rattle.building.specs.Cells.{Between}

-- how many there are
pub most-triangle : (D d : ℕ) → D ≡ 2 → 3 ≡ most D d
unfolding most
most-triangle D d e = rw (eq-eqb D 2 e)

pub most-edges : (D d : ℕ) → (D ≡ 2 → ⊥) → d ≡ 1 → 6 ≡ most D d
unfolding most
most-edges D d n e = rw (ne_eqb D 2 n, eq-eqb d 1 e)

pub most-faces : (D d : ℕ) → (D ≡ 2 → ⊥) → (d ≡ 1 → ⊥) → 4 ≡ most D d
unfolding most
most-faces D d n m = rw (ne_eqb D 2 n, ne_eqb d 1 m)

module _ (cell : List ℕ) (four : length cell ≡ 4) {d D : ℕ} (b : Between d D) where
  abbrev v : ℕ
  v = get_or cell 0 0

  abbrev w : ℕ
  w = get_or cell 1 0

  abbrev x : ℕ
  x = get_or cell 2 0

  abbrev y : ℕ
  y = get_or cell 3 0

  pub triangle : D ≡ 2
      → take (most D d) ((v ∷ w ∷ 0 ∷ []) ∷ (v ∷ x ∷ 0 ∷ []) ∷ (w ∷ x ∷ 0 ∷ []) ∷ (0 ∷ 0 ∷ 0 ∷ []) ∷ (0 ∷ 0 ∷ 0 ∷ []) ∷ (0 ∷ 0 ∷ 0 ∷ []) ∷ [])
      ≡ map (padded d) (choose (d + 1) (take (D + 1) cell))
  unfolding padded choose
  triangle e =
      let f : d ≡ 1 = omega (arith, b.low, b.high) in
      rw (← most-triangle D d e, e, f, four-members cell four)

  pub edges : (D ≡ 2 → ⊥) → d ≡ 1
      → take (most D d) ((v ∷ w ∷ 0 ∷ []) ∷ (v ∷ x ∷ 0 ∷ []) ∷ (v ∷ y ∷ 0 ∷ []) ∷ (w ∷ x ∷ 0 ∷ []) ∷ (w ∷ y ∷ 0 ∷ []) ∷ (x ∷ y ∷ 0 ∷ []) ∷ [])
      ≡ map (padded d) (choose (d + 1) (take (D + 1) cell))
  unfolding padded choose
  edges n f =
      let e : D ≡ 3 = omega (arith, b.low, b.high, b.most) in
      rw (← most-edges D d n f, e, f, four-members cell four)

  pub faces : (D ≡ 2 → ⊥) → (d ≡ 1 → ⊥)
      → take (most D d) ((v ∷ w ∷ x ∷ []) ∷ (v ∷ w ∷ y ∷ []) ∷ (v ∷ x ∷ y ∷ []) ∷ (w ∷ x ∷ y ∷ []) ∷ (0 ∷ 0 ∷ 0 ∷ []) ∷ (0 ∷ 0 ∷ 0 ∷ []) ∷ [])
      ≡ map (padded d) (choose (d + 1) (take (D + 1) cell))
  unfolding padded choose
  faces n m =
      let e : D ≡ 3 = omega (arith, b.low, b.high, b.most) in
      let f : d ≡ 2 = omega (arith, b.low, b.high) in
      rw (← most-faces D d n m, e, f, four-members cell four)
