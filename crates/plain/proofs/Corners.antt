-- The candidates of a cell of three or four corners.
use mathlib.Core.Path.{◌≡◌, ◌∙◌}
use mathlib.Core.List.{List, [], ◌∷◌}
use Prim.Native.Nat.{ℕ, zero, suc, ◌+◌, ◌-◌, ◌≤◌, ◌<◌}
use native.Mathlib.Omega.{arith}
use lib.ListN.{length, get_or, take}
use lib.Seq.{take_all}
use borrow.Author.Tests.{eq-eqb, ne_eqb}
use Rattle.rules.specs.Lists.{choose}
use Rattle.rules.specs.Book.{most}
use Rattle.rules.proofs.Numbered.{four-members}
use Rattle.plain.specs.Cells.{Choice}

-- the edges of a tetrahedron behind those at its first corner
pub edge-behind : (v w x y q : ℕ) → 3 ≤ q → get_or (choose 2 (w ∷ x ∷ y ∷ [])) (q - 3) [] ≡ get_or (choose 2 (v ∷ w ∷ x ∷ y ∷ [])) q []
unfolding choose
edge-behind v w x y zero l = absurd (omega arith)
edge-behind v w x y (suc zero) l = absurd (omega arith)
edge-behind v w x y (suc (suc zero)) l = absurd (omega arith)
edge-behind v w x y (suc (suc (suc q))) l = let e : suc (suc (suc q)) - 3 ≡ q = omega arith in rw e

four-of : (c : List ℕ) → length c ≡ 4 → take 4 c ≡ get_or c 0 0 ∷ get_or c 1 0 ∷ get_or c 2 0 ∷ get_or c 3 0 ∷ []
four-of c l = take_all 4 c (omega arith) ∙ four-members c l

module _ {D d q : ℕ} (k : Choice D d q) where
  pub few-sides : D ≡ 2 → q < 3
  unfolding most
  few-sides e = let f = k.few in rw (eq-eqb D 2 e) at f

  pub few-edges : (D ≡ 2 → ⊥) → d ≡ 1 → q < 6
  unfolding most
  few-edges n e = let f = k.few in rw (ne_eqb D 2 n, eq-eqb d 1 e) at f

  pub few-faces : (D ≡ 2 → ⊥) → (d ≡ 1 → ⊥) → q < 4
  unfolding most
  few-faces n e = let f = k.few in rw (ne_eqb D 2 n, ne_eqb d 1 e) at f

  -- which candidates these are
  module _ (cell r : List ℕ) (four : length cell ≡ 4) where
    pub edges_are : (D ≡ 2 → ⊥) → d ≡ 1 → take 2 r ≡ get_or (choose 2 (get_or cell 0 0 ∷ get_or cell 1 0 ∷ get_or cell 2 0 ∷ get_or cell 3 0 ∷ [])) q [] → take (d + 1) r ≡ get_or (choose (d + 1) (take (D + 1) cell)) q []
    edges_are n p h =
        let e : D ≡ 3 = omega (arith, k.low, k.high, k.three) in
        rw (e, p, four-of cell four) h
