-- Salvage: for a cell that is whole, in range and names no vertex twice, to be equal to an earlier kept cell is to be equal to any earlier cell, and that is Load's own test.
use mathlib.Core.Path.{◌≡◌, refl, sym, ap, ◌∙◌}
use mathlib.Core.Logic.{◌⊎◌, inl, inr}
use mathlib.Core.Bool.{Bool, true, false, cond}
use mathlib.Core.List.Memᴰ.{head as here}
use mathlib.Core.List.{List, [], ◌∷◌, map, Memᴰ as In}
use mathlib.Core.List.Memᴰ
use Prim.Native.Nat.{ℕ, zero, suc, ◌+◌, ◌*◌, ◌<◌, ◌≤◌}
use native.Mathlib.Nat.{mul-le-mul_left}
use native.Mathlib.Omega.{arith}
use lib.ListN.{length}
use lib.Dec.{leb}
use borrow.Author.Tests.{ltb-false, le-ltb}
use Rattle.rules.specs.Lists.{up_to, any_of, same, repeated, sorted}
use Rattle.rules.specs.Calls.{first_broken}
use Rattle.rules.specs.File.{file_dim, file_vertices, file_cells, file_cell, cells_in_file, bits_of, out_of, twice}
use Rattle.rules.specs.Salvage.{equal_to, cut_off, cell_fault, kept_of, why}
use Rattle.rules.proofs.Tests.{cases, agree, any-of, any-is, same-is, same_refl}
use Rattle.rules.proofs.Keep.{up_to-of, up_to-is}
use Rattle.rules.proofs.Numbered.{last-or-below}
use Rattle.rules.proofs.Sorted.{any-sorted, twice-sorted}
use Rattle.rules.proofs.Distinct.{map_of, map_is}
use Rattle.rules.proofs.Unlike.{repeated-of, repeated-is}
use Rattle.rules.proofs.TrueLoad.{cells_are}
use Rattle.rules.proofs.LoadedWords.{row-at}
use Rattle.rules.proofs.Salvaged.{fine-kept, Next, taken, left_out, next}

-- ---- cells with the same vertex set
module _ (f : List ℕ) where
  -- cell c is whole, in range, and names no vertex twice
  pub record Clean (c : ℕ) : Type 0 where
    pub whole : cut_off f c ≡ false
    pub within : out_of (file_vertices f) (file_cell f c) ≡ false
    pub once : twice (file_cell f c) ≡ false

  whole_before : (k n : ℕ) → k < n → cut_off f n ≡ false → cut_off f k ≡ false
  unfolding cut_off bits_of
  whole_before k n l h =
      let q = ltb-false (8 * length f) (32 + 13 * (file_dim f + 1) * (n + 1)) h in
      let p : k + 1 ≤ n + 1 = omega arith in
      le-ltb (8 * length f) (32 + 13 * (file_dim f + 1) * (k + 1)) (omega (arith, mul-le-mul_left (13 * (file_dim f + 1)) p))

  -- an earlier cell with the same vertex set is so too
  clean-before : (k n : ℕ) → k < n → sorted (file_cell f k) ≡ sorted (file_cell f n) → Clean n → Clean k
  clean-before k n l e a = record {
    whole = whole_before k n l a.whole;
    within = unfold out_of in sym (any-sorted (λ v. leb (file_vertices f) v) (file_cell f k)) ∙ ap (any_of (λ v. leb (file_vertices f) v)) e ∙ any-sorted (λ v. leb (file_vertices f) v) (file_cell f n) ∙ a.within;
    once = sym (twice-sorted (file_cell f k)) ∙ ap twice e ∙ twice-sorted (file_cell f n) ∙ a.once;
  }

  -- a clean cell has its vertex set among the kept ones, as soon as it has been looked at
  among_next : (n k : ℕ) (rs : List (List ℕ)) → Next f n rs → equal_to (file_cell f k) (kept_of f n) ≡ true → equal_to (file_cell f k) rs ≡ true
  unfolding equal_to
  among_next n k rs (taken a) h =
      let (b, i, e) = any-is (λ b. same (sorted b) (sorted (file_cell f k))) (kept_of f n) h in
      any-of (λ b. same (sorted b) (sorted (file_cell f k))) (Memᴰ.append_left (file_cell f n ∷ []) i) e
  among_next n k rs (left_out w) h = h

  own-next : (n : ℕ) (rs : List (List ℕ)) → Next f n rs → Clean n → equal_to (file_cell f n) rs ≡ true
  unfolding equal_to
  own-next n rs (taken a) c = any-of (λ b. same (sorted b) (sorted (file_cell f n))) (Memᴰ.append_right (kept_of f n) (here refl)) (same_refl (sorted (file_cell f n)))
  own-next n rs (left_out w) c = go (cases (equal_to (file_cell f n) (kept_of f n)))
    where
      go : (equal_to (file_cell f n) (kept_of f n) ≡ true) ⊎ (equal_to (file_cell f n) (kept_of f n) ≡ false) → equal_to (file_cell f n) (kept_of f n) ≡ true
      go (inl e) = e
      go (inr e) = absurd (w (unfold why in fine-kept f (kept_of f n) n (record { whole = c.whole; within = c.within; once = c.once; new = e })))

  among : (n k : ℕ) → k < n → Clean k → equal_to (file_cell f k) (kept_of f n) ≡ true
  among zero k l c = absurd (omega arith)
  among (suc n) k l c = go (last-or-below k n l) (λ h. among n k h c)
    where
      go : (k ≡ n) ⊎ (k < n) → (k < n → equal_to (file_cell f k) (kept_of f n) ≡ true) → equal_to (file_cell f k) (kept_of f (suc n)) ≡ true
      go (inl e) ih = rw e (own-next n (kept_of f (suc n)) (next f n) (rw e at c))
      go (inr h) ih = among_next n k (kept_of f (suc n)) (next f n) (ih h)

  -- each kept cell is an earlier cell
  wider : (n : ℕ) (b : List ℕ) → In b (map (file_cell f) (up_to n)) → In b (map (file_cell f) (up_to (suc n)))
  wider n b i =
      let (k, j, e) = map_is (file_cell f) (up_to n) i in
      rw e (map_of (file_cell f) (up_to-of k (suc n) (omega (arith, up_to-is k n j))))

  from_next : (n : ℕ) (b : List ℕ) (rs : List (List ℕ)) → Next f n rs → In b rs → (In b (kept_of f n) → In b (map (file_cell f) (up_to n))) → In b (map (file_cell f) (up_to (suc n)))
  from_next n b rs (taken a) i ih = go (Memᴰ.append_cases (kept_of f n) i)
    where
      go : In b (kept_of f n) ⊎ In b (file_cell f n ∷ []) → In b (map (file_cell f) (up_to (suc n)))
      go (inl j) = wider n b (ih j)
      go (inr j) = rw (Memᴰ.eq_of_singleton j) (map_of (file_cell f) (up_to-of n (suc n) (omega arith)))
  from_next n b rs (left_out w) i ih = wider n b (ih i)

  kept_from : (n : ℕ) (b : List ℕ) → In b (kept_of f n) → In b (map (file_cell f) (up_to n))
  kept_from zero b i = unfold kept_of up_to in i
  kept_from (suc n) b i = from_next n b (kept_of f (suc n)) (next f n) i (λ j. kept_from n b j)

  found_before : (k n : ℕ) → k < n → sorted (file_cell f k) ≡ sorted (file_cell f n) → Clean n → equal_to (file_cell f n) (kept_of f n) ≡ true
  unfolding equal_to
  found_before k n l s c = ap (λ (t : List ℕ). any_of (λ b. same (sorted b) t) (kept_of f n)) (sym s) ∙ among n k l (clean-before k n l s c)

  pub equal-before : (n : ℕ) → Clean n → equal_to (file_cell f n) (kept_of f n) ≡ equal_to (file_cell f n) (map (file_cell f) (up_to n))
  unfolding equal_to
  equal-before n c =
      let p : List ℕ → Bool = λ b. same (sorted b) (sorted (file_cell f n)) in
      agree (any_of p (kept_of f n)) (any_of p (map (file_cell f) (up_to n)))
      (λ h. let (b, i, e) = any-is p (kept_of f n) h in any-of p (kept_from n b i) e)
      (λ h.
      let (b, i, e) = any-is p (map (file_cell f) (up_to n)) h in
      let (k, j, q) = map_is (file_cell f) (up_to n) i in
      found_before k n (up_to-is k n j) (ap sorted (sym q) ∙ same-is _ _ e) c)

  -- to be equal to an earlier cell is Load's test
  pub equal-repeated : (n : ℕ) → n < file_cells f → equal_to (file_cell f n) (map (file_cell f) (up_to n)) ≡ repeated (map sorted (cells_in_file f)) n
  unfolding equal_to
  equal-repeated n l = agree (any_of (λ b. same (sorted b) (sorted (file_cell f n))) (map (file_cell f) (up_to n))) (repeated (map sorted (cells_in_file f)) n) onward back
    where
      onward : any_of (λ b. same (sorted b) (sorted (file_cell f n))) (map (file_cell f) (up_to n)) ≡ true → repeated (map sorted (cells_in_file f)) n ≡ true
      onward h =
          let (b, i, e) = any-is (λ b. same (sorted b) (sorted (file_cell f n))) (map (file_cell f) (up_to n)) h in
          let (k, j, q) = map_is (file_cell f) (up_to n) i in
          let m = up_to-is k n j in
          repeated-of (map sorted (cells_in_file f)) n k m (rw (cells_are f) l) (row-at f n l ∙ sym (same-is _ _ e) ∙ ap sorted q ∙ sym (row-at f k (omega arith)))

      back : repeated (map sorted (cells_in_file f)) n ≡ true → any_of (λ b. same (sorted b) (sorted (file_cell f n))) (map (file_cell f) (up_to n)) ≡ true
      back h =
          let (k, m, e) = repeated-is (map sorted (cells_in_file f)) n (rw (cells_are f) l) h in
          let q : sorted (file_cell f n) ≡ sorted (file_cell f k) = sym (row-at f n l) ∙ e ∙ row-at f k (omega arith) in
          any-of (λ b. same (sorted b) (sorted (file_cell f n))) (map_of (file_cell f) (up_to-of k n m)) (rw q (same_refl (sorted (file_cell f k))))

  -- so why a cell is dropped can be told from the file alone
  pub why-alone : (n : ℕ) → why f n ≡ cell_fault f (map (file_cell f) (up_to n)) n
  unfolding why cell_fault first_broken
  why-alone n = go (cut_off f n) refl (out_of (file_vertices f) (file_cell f n)) refl (twice (file_cell f n)) refl
    where
      go : (a : Bool) → cut_off f n ≡ a → (b : Bool) → out_of (file_vertices f) (file_cell f n) ≡ b → (c : Bool) → twice (file_cell f n) ≡ c
          → ◌≡◌ {A = ℕ} (cond a 6 (cond b 7 (cond c 8 (cond (equal_to (file_cell f n) (kept_of f n)) 23 0)))) (cond a 6 (cond b 7 (cond c 8 (cond (equal_to (file_cell f n) (map (file_cell f) (up_to n))) 23 0))))
      go true x b y c z = refl
      go false x true y c z = refl
      go false x false y true z = refl
      go false x false y false z = rw (equal-before n (record { whole = x; within = y; once = z }))
