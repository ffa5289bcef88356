-- Edges and cells by what is read of them: an edge of one or two cells by its first and last, a cell by its three edges.
use mathlib.Core.Path.{◌≡◌, refl, ap, ◌∙◌}
use mathlib.Core.Bool.{Bool, true, false, not, ◌&&◌}
use mathlib.Core.List.{List, [], ◌∷◌}
use Prim.Native.Nat.{ℕ, zero, suc, ◌≤◌, ◌<◌}
use native.Mathlib.Omega.{arith}
use lib.ListN.{length, get_or}
use lib.Dec.{eqb}
use borrow.Author.Tests.{eq-eqb, ne_eqb, lt-ltb, le-ltb}
use Rattle.rules.specs.Lists.{up_to, any_of, all_of, keep, first_at, has}
use Rattle.rules.specs.Book.{count, key}
use Rattle.rules.specs.Calls.{Rule, first_broken}
use Rattle.rules.specs.Sheet.{edges_of, cells_at, unmatched, not_sheet, Flat}
use Rattle.std.specs.List.{list_any, list_all}
use Rattle.rules.proofs.Tests.{eqb_comm}
use Rattle.rules.proofs.FrameRule.{framed}
use Rattle.rules.proofs.RowRule.{row-length, index_below}
use Rattle.rules.proofs.Numbered.{length-up_to}
use Rattle.rules.proofs.Searched.{any-first}

-- ---- an edge's cells
pub any-has : (xs : List ℕ) (c : ℕ) → list_any (λ j. eqb j c) xs ≡ has c xs
unfolding has any_of
any-has [] c = refl
any-has (x ∷ xs) c = rw (eqb_comm x c, any-has xs c)

-- the first that is another, and none where all are the same
pub first-other : (xs : List ℕ) (c i : ℕ) → i < length xs → ((j : ℕ) → j < i → get_or xs j 0 ≡ c) → (get_or xs i 0 ≡ c → ⊥) → get_or xs i 0 ≡ get_or (keep (λ j. not (eqb j c)) xs) 0 65535
unfolding keep
first-other [] c i l b n = absurd (omega arith)
first-other (x ∷ xs) c zero l b n = rw (ne_eqb x c n)
first-other (x ∷ xs) c (suc i) l b n = rw (eq-eqb x c (b 0 (omega arith))) (first-other xs c i (omega arith) (λ j m. b (suc j) (omega arith)) n)

pub none-other : (xs : List ℕ) (c : ℕ) → ((j : ℕ) → j < length xs → get_or xs j 0 ≡ c) → 65535 ≡ get_or (keep (λ j. not (eqb j c)) xs) 0 65535
unfolding keep
none-other [] c b = refl
none-other (x ∷ xs) c b = rw (eq-eqb x c (b 0 (omega arith))) (none-other xs c (λ j m. b (suc j) (omega arith)))

-- ---- a cell and its three edges
pub too_few : (ws : List ℕ) (c : ℕ) → (length (edges_of ws c) ≡ 3 → ⊥) → false ≡ not (unmatched ws c)
unfolding unmatched
too_few ws c n = rw (ne_eqb (length (edges_of ws c)) 3 n)

all-is : (p : ℕ → Bool) (xs : List ℕ) → list_all p xs ≡ all_of p xs
unfolding all_of
all-is p [] = refl
all-is p (x ∷ xs) = ap (λ (b : Bool). p x && b) (all-is p xs)

pub matched-is : (ws : List ℕ) (c : ℕ) → length (edges_of ws c) ≡ 3 → list_all (λ k. has c (cells_at ws k)) (edges_of ws c) ≡ not (unmatched ws c)
unfolding unmatched
matched-is ws c e = rw (eq-eqb (length (edges_of ws c)) 3 e) (all-is (λ k. has c (cells_at ws k)) (edges_of ws c) ∙ back (all_of (λ k. has c (cells_at ws k)) (edges_of ws c)))
  where
    back : (b : Bool) → b ≡ not (not b)
    back true = refl
    back false = refl

-- an edge of a cell is one
pub edge-low : (ws : List ℕ) → Flat ws → (c : ℕ) → c < count ws 2 → (t : ℕ) → t < length (edges_of ws c) → get_or (edges_of ws c) t 0 < count ws 1
unfolding edges_of key
edge-low ws f c l t b =
    let g = framed ws f.frame in
    index_below ws g f.rows 9 f.edges c t l (omega (arith, row-length ws g f.rows 9 f.edges c l))

-- ---- the lowest of the entities that do not pass
-- there is one
pub found-off : (why n : ℕ) (off : ℕ → Bool) (rs : List (Rule (List ℕ))) (a : List ℕ) → first_at off (up_to n) < n → 28 ∷ why ∷ first_at off (up_to n) ∷ [] ≡ first_broken (not_sheet why off n ∷ rs) a
unfolding first_broken
found-off why n off rs a l = let h : any_of off (up_to n) ≡ true = any-first off (up_to n) ∙ rw length-up_to (lt-ltb _ _ l) in rw h

-- there is none
pub none-off : (n : ℕ) (off : ℕ → Bool) → (first_at off (up_to n) < n → ⊥) → any_of off (up_to n) ≡ false
none-off n off l = let g : n ≤ first_at off (up_to n) = omega arith in any-first off (up_to n) ∙ rw length-up_to (le-ltb _ _ g)

pub passed-off : (why n : ℕ) (off : ℕ → Bool) (rs : List (Rule (List ℕ))) (a : List ℕ) → any_of off (up_to n) ≡ false → first_broken rs a ≡ first_broken (not_sheet why off n ∷ rs) a
unfolding first_broken
passed-off why n off rs a h = rw h

-- ---- three numbers
pub triple : {x y z u v w : ℕ} → x ≡ u → y ≡ v → z ≡ w → x ∷ y ∷ z ∷ [] ≡ u ∷ v ∷ w ∷ []
triple e f g = rw (e, f, g)
