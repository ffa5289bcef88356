-- The cells looked at, one after another: why a cell is dropped, and the rows of those kept.
use mathlib.Core.Path.{◌≡◌, refl, sym, ap, ◌∙◌}
use mathlib.Core.Bool.{Bool, true, false, cond}
use mathlib.Core.List.Memᴰ.{head as here}
use mathlib.Core.List.Memᴰ.{tail as there}
use mathlib.Core.List.{List, [], ◌∷◌, ◌++◌, map, map-append, append-nil, Memᴰ as In}
use Prim.Native.Nat.{ℕ, ◌+◌, ◌-◌, ◌*◌}
use native.Mathlib.Numerals.{add-one}
use native.Mathlib.Omega.{arith}
use lib.ListN.{length, take, replicate, length-append, length-replicate}
use lib.Seq.{take_at}
use lib.Dec.{leb}
use borrow.Author.Tests.{ne_eqb}
use Rattle.rules.specs.Lists.{up_to, any_of, same, sorted}
use Rattle.rules.specs.File.{file_dim, file_vertices, file_cell, out_of, twice}
use Rattle.rules.specs.Calls.{first_broken}
use Rattle.rules.specs.Salvage.{cut_off, equal_to, cell_fault, kept_of, why}
use Rattle.rules.proofs.Tests.{agree, same-is, same_refl}
use Rattle.rules.proofs.Sorted.{length-sorted, any-sorted, twice-sorted}
use Rattle.rules.proofs.Numbered.{length-rows}
use Rattle.rules.proofs.Joined.{map_last}
use Rattle.rules.proofs.Salvaged.{sound-kept}
use Rattle.repeats.specs.Rows.{row_at, rows_in, bucket_of, bucket_at}
use Rattle.rules.specs.Chains.{Chains}
use Rattle.rules.proofs.Chained.{chains-none, chains-alike}
use Rattle.dayfile.proofs.FourWords.{row-front, rows-front}
use Rattle.salvaging.specs.Looked.{row_fault, four_of, Looked}

-- ---- why a cell is dropped
-- the order of its vertices does not matter to what is wrong with them by themselves
pub fault-sorted : (n : ℕ) (vs : List ℕ) → row_fault n (sorted vs) ≡ row_fault n vs
unfolding row_fault out_of first_broken
fault-sorted n vs = rw (any-sorted (λ v. leb n v) vs, twice-sorted vs)

module _ (f : List ℕ) (c : ℕ) where
  -- a cell that is cut off
  pub why-cut : cut_off f c ≡ true → why f c ≡ 6
  unfolding why cell_fault first_broken
  why-cut h = rw h

  -- of a whole cell, what is wrong with its vertices by themselves goes before a look at others
  pub why-own : cut_off f c ≡ false → (row_fault (file_vertices f) (file_cell f c) ≡ 0 → ⊥) → why f c ≡ row_fault (file_vertices f) (file_cell f c)
  unfolding why cell_fault row_fault first_broken
  why-own w h = rw w (go (out_of (file_vertices f) (file_cell f c)) (twice (file_cell f c)) h)
    where
      go : (y z : Bool) → (◌≡◌ {A = ℕ} (cond y 7 (cond z 8 0)) 0 → ⊥) → ◌≡◌ {A = ℕ} (cond y 7 (cond z 8 (cond (equal_to (file_cell f c) (kept_of f c)) 23 0))) (cond y 7 (cond z 8 0))
      go true z n = refl
      go false true n = refl
      go false false n = absurd (n refl)

  pub why-rest : cut_off f c ≡ false → row_fault (file_vertices f) (file_cell f c) ≡ 0 → why f c ≡ cond (equal_to (file_cell f c) (kept_of f c)) 23 0
  unfolding why cell_fault row_fault first_broken
  why-rest w h = rw w (go (out_of (file_vertices f) (file_cell f c)) (twice (file_cell f c)) h)
    where
      go : (y z : Bool) → ◌≡◌ {A = ℕ} (cond y 7 (cond z 8 0)) 0 → ◌≡◌ {A = ℕ} (cond y 7 (cond z 8 (cond (equal_to (file_cell f c) (kept_of f c)) 23 0))) (cond (equal_to (file_cell f c) (kept_of f c)) 23 0)
      go true z n = absurd (omega arith)
      go false true n = absurd (omega arith)
      go false false n = refl

  -- one cell more is kept, or none
  pub kept_more : why f c ≡ 0 → kept_of f (c + 1) ≡ kept_of f c ++ (file_cell f c ∷ [])
  unfolding why kept_of
  kept_more h = rw (add-one c, h)

  pub kept_same : (why f c ≡ 0 → ⊥) → kept_of f (c + 1) ≡ kept_of f c
  unfolding why kept_of
  kept_same h = rw (add-one c, ne_eqb (cell_fault f (kept_of f c) c) 0 h) (append-nil (kept_of f c))

-- ---- rows of four words are equal exactly when the cells have the same vertices
same-four : (D : ℕ) (a b : List ℕ) → length (sorted a) ≡ D + 1 → length (sorted b) ≡ D + 1 → same (four_of D a) (four_of D b) ≡ same (sorted b) (sorted a)
unfolding four_of
same-four D a b l m =
    agree (same (sorted a ++ replicate (3 - D) 0) (sorted b ++ replicate (3 - D) 0)) (same (sorted b) (sorted a))
    (λ h.
    let e = same-is (sorted a ++ replicate (3 - D) 0) (sorted b ++ replicate (3 - D) 0) h in
    let q : sorted a ≡ sorted b = sym (take_at (sorted a) (replicate (3 - D) 0) (D + 1) l) ∙ ap (take (D + 1)) e ∙ take_at (sorted b) (replicate (3 - D) 0) (D + 1) m in
    rw q (same_refl (sorted b)))
    (λ h. let q = same-is (sorted b) (sorted a) h in rw q (same_refl (sorted a ++ replicate (3 - D) 0)))

pub among-four : (D : ℕ) (a : List ℕ) (bs : List (List ℕ)) → length a ≡ D + 1 → ((b : List ℕ) → In b bs → length b ≡ D + 1) → any_of (same (four_of D a)) (map (four_of D) bs) ≡ equal_to a bs
unfolding equal_to any_of
among-four D a [] l h = refl
among-four D a (b ∷ bs) l h = rw (same-four D a b (length-sorted a ∙ l) (length-sorted b ∙ h b (here refl)), among-four D a bs l (λ x i. h x (there i)))

-- ---- the rows of the cells kept
pub looked-none : (f : List ℕ) → Looked f (replicate 16384 0) (replicate 8192 0) (replicate 4096 0) 0 0
looked-none f = record { number = unfold kept_of in refl; few = omega arith; long = length-replicate {A = ℕ} 16384 0; cells = unfold kept_of rows_in up_to in refl; chains = chains-none _ 8192 4096 }

module _ {f rows heads next : List ℕ} {c k : ℕ} (p : Looked f rows heads next c k) where
  -- a cell that is dropped leaves them
  pub looked-same : (why f c ≡ 0 → ⊥) → Looked f rows heads next (c + 1) k
  looked-same h = record { number = p.number ∙ ap length (sym (kept_same f c h)); few = omega (arith, p.few); long = p.long; cells = p.cells ∙ ap (map (four_of (file_dim f))) (sym (kept_same f c h)); chains = p.chains }

  -- a cell put down behind them
  module _ (ys : List ℕ) (l : length ys ≡ 16384) (e : take (4 * k) ys ≡ take (4 * k) rows) (g : row_at 4 ys k ≡ four_of (file_dim f) (file_cell f c)) where
    rows-kept : rows_in 4 ys k ≡ map (four_of (file_dim f)) (kept_of f c)
    rows-kept = rows-front rows ys k e ∙ p.cells

    pub chains-put : Chains (bucket_at 4 ys) 8192 4096 heads next k
    unfolding bucket_at
    chains-put = chains-alike (λ i m. ap bucket_of (row-front rows ys k i m e)) p.chains

    -- is looked for among them
    pub equal-found : any_of (same (row_at 4 ys k)) (rows_in 4 ys k) ≡ equal_to (file_cell f c) (kept_of f c)
    equal-found = rw (g, rows-kept) (among-four (file_dim f) (file_cell f c) (kept_of f c) (unfold file_cell in length-rows _ (file_dim f + 1)) (λ b i. (sound-kept f c b i).size))

    -- and is one of them where it is kept
    module _ (hs ns : List ℕ) where
      pub looked-left : (why f c ≡ 0 → ⊥) → Chains (bucket_at 4 ys) 8192 4096 hs ns k → Looked f ys hs ns (c + 1) k
      looked-left h q = record { number = p.number ∙ ap length (sym (kept_same f c h)); few = omega (arith, p.few); long = l; cells = rows-kept ∙ ap (map (four_of (file_dim f))) (sym (kept_same f c h)); chains = q }

      pub looked-more : why f c ≡ 0 → Chains (bucket_at 4 ys) 8192 4096 hs ns (k + 1) → Looked f ys hs ns (c + 1) (k + 1)
      looked-more h q = record {
        number = rw (kept_more f c h, length-append, ← p.number);
        few = omega (arith, p.few);
        long = l;
        cells = unfold rows_in in map_last (row_at 4 ys) k ∙ rw (kept_more f c h, map-append, ← rows-kept, g);
        chains = q;
      }
