-- A number looked for among sets, found or passed.
use mathlib.Core.Path.{◌≡◌, refl, sym, ap, ◌∙◌}
use mathlib.Core.Bool.{Bool, true, false, cond, not, ◌&&◌}
use mathlib.Core.List.{List, [], ◌∷◌, ◌++◌, append_assoc, append-nil}
use Prim.Native.Nat.{ℕ, zero, suc, ◌+◌, ◌-◌, ◌≤◌, ◌<◌}
use native.Mathlib.Nat.{add-zero}
use native.Mathlib.Omega.{arith}
use lib.ListN.{length, get_or, take, length-append, get_or-append}
use lib.Seq.{get_or_at, get_or-append-add}
use lib.Dec.{eqb}
use borrow.Author.Tests.{eqb-true, eqb-false}
use Rattle.rules.specs.Lists.{any_of, inside, choose}
use Rattle.rules.specs.Book.{most}
use Rattle.rules.specs.Made.{built}
use Rattle.rules.proofs.Tests.{both}
use Rattle.plain.specs.Cells.{cell_at, cells_before, Cells, is_new, news}
use Rattle.plain.specs.Sought.{There}
use Rattle.plain.proofs.Counting.{many-candidates, built-news, news-rest, news-new, news-old}

-- it is the one behind the first sets
pub found_at : (xs rest : List (List ℕ)) (s : List ℕ) (d i : ℕ) (r : List ℕ) → take (d + 1) r ≡ s → length xs ≡ i → There (xs ++ (s ∷ []) ++ rest) d i r
found_at xs rest s d i r e l = record {
  below = simp (append_assoc, length-append) (omega arith);
  set = e ∙ sym (ap (λ (ys : List (List ℕ)). get_or ys i []) (append_assoc xs (s ∷ []) rest) ∙ get_or_at xs s rest [] i l);
}

-- found among the next sets, after the first were passed
pub found-later : (xs ys rest : List (List ℕ)) (d i k : ℕ) (r : List ℕ) → k + length xs ≡ i → There ys d k r → There (xs ++ ys ++ rest) d i r
found-later xs ys rest d i k r e s =
    let q : i ≡ length xs + k = omega arith in
    record {
      below = let l = s.below in simp (append_assoc, length-append) (omega arith);
      set = s.set ∙ sym (rw (append_assoc xs ys rest, q) (get_or-append-add xs (ys ++ rest) k [] ∙ get_or-append ys rest [] k s.below));
    }

-- ---- within a cell
module _ {ws : List ℕ} {D n d c : ℕ} (k : Cells ws D n) (l : c < n) (low : 0 < d) (high : d < D) where
  -- the next candidate is there
  next-candidate : (q : ℕ) → q < most D d → q < length (choose (d + 1) (cell_at (D + 1) ws c))
  next-candidate q m = rw (many-candidates k d low high c l) m

  module _ (number q left : ℕ) (m : q < most D d) (inv : left + length (news D d ws c q) ≡ number) (met : Bool)
      (e : met ≡ any_of (inside (get_or (choose (d + 1) (cell_at (D + 1) ws c)) q [])) (cells_before (D + 1) ws c)) where
    new_is : is_new D ws c (get_or (choose (d + 1) (cell_at (D + 1) ws c)) q []) ≡ not met
    unfolding is_new
    new_is = ap not (sym e)

    pub cell-found : (not met && eqb left 0) ≡ true → (r : List ℕ)
        → take (d + 1) r ≡ get_or (choose (d + 1) (cell_at (D + 1) ws c)) q [] → There (news D d ws c (most D d)) d number r
    cell-found h r s =
        let (a, b) = both (not met) (eqb left 0) h in
        let z = eqb-true left 0 b in
        let x = next-candidate q m in
        let (rest, p) = news-rest D d ws c q x (most D d) (omega arith) in
        let y = news-new D d ws c q x (new_is ∙ a) in
        rw (p, y) (found_at (news D d ws c q) rest (get_or (choose (d + 1) (cell_at (D + 1) ws c)) q []) d number r s (omega arith))

    pub cell-positive : (not met && eqb left 0) ≡ false → met ≡ false → 0 < left
    cell-positive h z = let g : eqb left 0 ≡ false = rw z at h in omega (arith, eqb-false left 0 g)

    pub cell-next : (not met && eqb left 0) ≡ false → cond met left (left - 1) + length (news D d ws c (q + 1)) ≡ number
    cell-next h = go met refl
      where
        go : (b : Bool) → met ≡ b → cond b left (left - 1) + length (news D d ws c (q + 1)) ≡ number
        go true z = rw (news-old D d ws c q (next-candidate q m) (new_is ∙ ap not z)) inv
        go false z =
            let g = cell-positive h z in
            let y = news-new D d ws c q (next-candidate q m) (new_is ∙ ap not z) in
            rw y (simp length-append (omega arith))

-- ---- cell by cell
module _ {ws : List ℕ} {D n d : ℕ} (k : Cells ws D n) (low : 0 < d) (high : d < D) where
  -- what is built from more cells begins with what is built from fewer
  built-rest : (c j : ℕ) → c + j ≤ n → (rest : List (List ℕ)) × (built d [] (cells_before (D + 1) ws (c + j)) ≡ built d [] (cells_before (D + 1) ws c) ++ rest)
  built-rest c zero l = ([], rw (add-zero c) (sym (append-nil (built d [] (cells_before (D + 1) ws c)))))
  built-rest c (suc j) l =
      let (rest, e) = built-rest c j (omega arith) in
      let q : c + suc j ≡ c + j + 1 = omega arith in (
        rest ++ news D d ws (c + j) (most D d),
        ap (λ (x : ℕ). built d [] (cells_before (D + 1) ws x)) q ∙ built-news k d low high (c + j) (omega arith)
            ∙ ap (λ (x : List (List ℕ)). x ++ news D d ws (c + j) (most D d)) e
            ∙ append_assoc (built d [] (cells_before (D + 1) ws c)) rest (news D d ws (c + j) (most D d)),
      )

  module _ (c left number : ℕ) (l : c < n) (inv : left + length (built d [] (cells_before (D + 1) ws c)) ≡ number) where
    pub cells-found : (r : List ℕ) → There (news D d ws c (most D d)) d left r → There (built d [] (cells_before (D + 1) ws n)) d number r
    cells-found r s =
        let j = n - (c + 1) in
        let q : n ≡ c + 1 + j = omega arith in
        let (rest, e) = built-rest (c + 1) j (omega arith) in
        let p : built d [] (cells_before (D + 1) ws n) ≡ built d [] (cells_before (D + 1) ws c) ++ news D d ws c (most D d) ++ rest
        = ap (λ (x : ℕ). built d [] (cells_before (D + 1) ws x)) q ∙ e ∙ ap (λ (x : List (List ℕ)). x ++ rest) (built-news k d low high c l) in
        rw p (found-later (built d [] (cells_before (D + 1) ws c)) (news D d ws c (most D d)) rest d number left r inv s)

    pub cells-next : (rest : ℕ) → rest + length (news D d ws c (most D d)) ≡ left → rest + length (built d [] (cells_before (D + 1) ws (c + 1))) ≡ number
    cells-next rest e = rw (built-news k d low high c l) (simp length-append (omega arith))
