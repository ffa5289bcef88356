-- A triangle or tetrahedron, and an edge or a face, looked at by four words and by three: the last of them may come twice.
use mathlib.Core.Path.{◌≡◌, refl, sym, ap, ◌∙◌}
use mathlib.Core.Logic.{◌⊎◌, inl, inr}
use mathlib.Core.Bool.{Bool, true, false, ◌&&◌, ◌||◌}
use mathlib.Core.List.{List, [], ◌∷◌}
use Prim.Native.Nat.{ℕ, ◌+◌, ◌-◌, ◌*◌, ◌≤◌, ◌<◌}
use native.Mathlib.Omega.{arith}
use lib.ListN.{length, get_or}
use lib.Dec.{eqb}
use Rattle.rules.specs.Lists.{any_of, all_of, has, inside}
use Rattle.rules.proofs.Compared.{lt-or-le}
use Rattle.rules.proofs.Numbered.{two-members, three-members, four-members}
use Rattle.plain.specs.Cells.{cell_at}
use Rattle.plain.proofs.Before.{cell-long, cell-word}

-- the last of three again
or-again : (x y z : Bool) → (x || (y || (z || (z || false)))) ≡ (x || (y || (z || false)))
or-again true y z = refl
or-again false true z = refl
or-again false false true = refl
or-again false false false = refl

-- the last of two again
and_again : (x y : Bool) → (x && (y && y)) ≡ (x && (y && true))
and_again true true = refl
and_again true false = refl
and_again false y = refl

-- one more that is so
and-true : (x y z : Bool) → (x && (y && z)) ≡ (x && (y && (z && true)))
and-true true true true = refl
and-true true true false = refl
and-true true false z = refl
and-true false y z = refl

-- ---- four words of a cell
module _ (ws : List ℕ) (size b v : ℕ) (l : 3 ≤ size) (h : size ≤ 4) (f : b * size + size ≤ length ws) where
  first-word : get_or ws (b * size) 0 ≡ get_or (cell_at size ws b) 0 0
  first-word = let e : b * size + 0 ≡ b * size = omega arith in ap (λ (p : ℕ). get_or ws p 0) (sym e) ∙ cell-word size ws b 0 (omega arith)

  last_word : (k : ℕ) → k + 1 ≡ size → get_or ws (b * size + size - 1) 0 ≡ get_or (cell_at size ws b) k 0
  last_word k e = let q : b * size + size - 1 ≡ b * size + k = omega arith in rw q (cell-word size ws b k (omega arith))

  pub four-words : has v (get_or ws (b * size) 0 ∷ get_or ws (b * size + 1) 0 ∷ get_or ws (b * size + 2) 0 ∷ get_or ws (b * size + size - 1) 0 ∷ []) ≡ has v (cell_at size ws b)
  unfolding has any_of
  four-words = rw (first-word, cell-word size ws b 1 (omega arith), cell-word size ws b 2 (omega arith)) (go (lt-or-le size 4))
    where
      go : (size < 4) ⊎ (4 ≤ size) → has v (get_or (cell_at size ws b) 0 0 ∷ get_or (cell_at size ws b) 1 0 ∷ get_or (cell_at size ws b) 2 0 ∷ get_or ws (b * size + size - 1) 0 ∷ []) ≡ has v (cell_at size ws b)
      go (inl m) = rw (last_word 2 (omega arith)) (or-again (eqb v (get_or (cell_at size ws b) 0 0)) (eqb v (get_or (cell_at size ws b) 1 0)) (eqb v (get_or (cell_at size ws b) 2 0)) ∙ ap (has v) (sym (three-members (cell_at size ws b) (cell-long size ws b f ∙ omega arith))))
      go (inr m) = rw (last_word 3 (omega arith)) (ap (has v) (sym (four-members (cell_at size ws b) (cell-long size ws b f ∙ omega arith))))

-- ---- three members of a set
module _ (set cell : List ℕ) (l : 2 ≤ length set) (h : length set ≤ 3) where
  last-member : (k : ℕ) → k + 1 ≡ length set → get_or set (length set - 1) 0 ≡ get_or set k 0
  last-member k e = let q : length set - 1 ≡ k = omega arith in rw q

  pub three-asked : (has (get_or set 0 0) cell && (has (get_or set 1 0) cell && has (get_or set (length set - 1) 0) cell)) ≡ inside set cell
  unfolding inside all_of
  three-asked = go (lt-or-le (length set) 3)
    where
      go : (length set < 3) ⊎ (3 ≤ length set) → (has (get_or set 0 0) cell && (has (get_or set 1 0) cell && has (get_or set (length set - 1) 0) cell)) ≡ inside set cell
      go (inl m) = rw (last-member 1 (omega arith)) (and_again (has (get_or set 0 0) cell) (has (get_or set 1 0) cell) ∙ ap (λ (s : List ℕ). inside s cell) (sym (two-members set (omega arith))))
      go (inr m) = rw (last-member 2 (omega arith)) (and-true (has (get_or set 0 0) cell) (has (get_or set 1 0) cell) (has (get_or set 2 0) cell) ∙ ap (λ (s : List ℕ). inside s cell) (sym (three-members set (omega arith))))

-- what was asked of each member decides whether the set lies inside the cell
module _ (ws : List ℕ) (size b : ℕ) (l : 3 ≤ size) (h : size ≤ 4) (f : b * size + size ≤ length ws) (set : List ℕ) (low : 2 ≤ length set) (high : length set ≤ 3) where
  -- the four words
  abbrev words : List ℕ
  words = get_or ws (b * size) 0 ∷ get_or ws (b * size + 1) 0 ∷ get_or ws (b * size + 2) 0 ∷ get_or ws (b * size + size - 1) 0 ∷ []

  pub all_held : (one two last : Bool) → one ≡ has (get_or set 0 0) words → two ≡ has (get_or set 1 0) words → last ≡ has (get_or set (length set - 1) 0) words → (one && (two && last)) ≡ inside set (cell_at size ws b)
  all_held one two last p q r =
      rw (p ∙ four-words ws size b (get_or set 0 0) l h f, q ∙ four-words ws size b (get_or set 1 0) l h f, r ∙ four-words ws size b (get_or set (length set - 1) 0) l h f)
      (three-asked set (cell_at size ws b) low high)
