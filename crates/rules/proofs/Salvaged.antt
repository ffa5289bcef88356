-- Salvage: the cells kept, one cell more at a time; the file written from them is the file of a mesh that Load accepts; kept and dropped are all.
use mathlib.Core.Path.{◌≡◌, refl, sym, ap, ◌∙◌}
use mathlib.Core.Logic.{◌⊎◌, inl, inr}
use mathlib.Core.Bool.{Bool, true, false, cond, not, true≢false}
use mathlib.Core.List.{List, [], ◌∷◌, ◌++◌, map, append-nil, map-append, Memᴰ as In}
use mathlib.Core.List.Memᴰ
use Prim.Native.Nat.{ℕ, zero, suc, ◌+◌, ◌*◌, ◌≤◌, ◌<◌}
use native.Mathlib.Nat.{mul-le-mul_left, mul-le-mul_right}
use native.Mathlib.Omega.{arith}
use lib.ListN.{length, drop, length-append, length-drop, length-map}
use lib.Dec.{eqb, leb}
use borrow.Author.Tests.{eqb-true, eqb-false, ltb-false, leb-false, not-true}
use Rattle.rules.specs.Lists.{up_to, any_of, all_of, same, repeats, joined, sorted, keep}
use Rattle.rules.specs.File.{field, file_dim, file_vertices, file_cells, file_cell, cells_in_file, bits_of, length_of, out_of, twice, file_bytes, put_file}
use Rattle.rules.specs.Calls.{rule, first_broken, loaded, at_front}
use Rattle.rules.specs.Truth.{Mesh, first_word}
use Rattle.rules.specs.Salvage.{Headed, cut_off, equal_to, cell_fault, kept_of, why, kept, dropped_of, pairs_of, dropped_pairs, dropped_count, saved_head, saved, saved_length}
use Rattle.rules.proofs.Tests.{cases, left, right, any_none, none_of, same-is, same_refl}
use Rattle.rules.proofs.Numbered.{length-rows, get_d_map}
use Rattle.rules.proofs.Distinct.{map_is}
use Rattle.rules.proofs.First.{keep-last}
use Rattle.rules.proofs.Accepted.{unbroken, Loads}
use Rattle.rules.proofs.Bits.{length-joined}
use Rattle.rules.proofs.Fields.{dim-below}
use Rattle.rules.proofs.BitsWritten.{Bytes, bytes_packed}
use Rattle.rules.proofs.Unlike.{repeats-last}
use Rattle.rules.proofs.Stored.{Stored, file_bits, file_of, bits-right, word-is, dims-back, vertices-back, cells-back, count-back, length-file, stored-loads, file-put}
use Rattle.rules.proofs.LoadedWords.{loaded-length}

-- ---- what a kept cell has passed
pub record Fine (f : List ℕ) (before : List (List ℕ)) (c : ℕ) : Type 0 where
  pub whole : cut_off f c ≡ false
  pub within : out_of (file_vertices f) (file_cell f c) ≡ false
  pub once : twice (file_cell f c) ≡ false
  pub new : equal_to (file_cell f c) before ≡ false

pub fine : (f : List ℕ) (before : List (List ℕ)) (c : ℕ) → cell_fault f before c ≡ 0 → Fine f before c
unfolding cell_fault all_of
fine f before c h =
    let r = unbroken (rule (cut_off f c) 6 ∷ rule (out_of (file_vertices f) (file_cell f c)) 7 ∷ rule (twice (file_cell f c)) 8 ∷ rule (equal_to (file_cell f c) before) 23 ∷ []) refl h in
    record {
      whole = search (left, right, not-true) depth 8;
      within = search (left, right, not-true) depth 8;
      once = search (left, right, not-true) depth 8;
      new = search (left, right, not-true) depth 8;
    }

pub fine-kept : (f : List ℕ) (before : List (List ℕ)) (c : ℕ) → Fine f before c → cell_fault f before c ≡ 0
unfolding cell_fault first_broken
fine-kept f before c a = rw (a.whole, a.within, a.once, a.new)

-- ---- the cells kept
module _ (f : List ℕ) where
  -- one cell more
  pub data Next (n : ℕ) : List (List ℕ) → Type 0 where
    taken : Fine f (kept_of f n) n → Next n (kept_of f n ++ (file_cell f n ∷ []))
    left_out : (why f n ≡ 0 → ⊥) → Next n (kept_of f n)

  pub next : (n : ℕ) → Next n (kept_of f (suc n))
  unfolding kept_of
  next n = go (eqb (cell_fault f (kept_of f n) n) 0) refl
    where
      go : (b : Bool) → eqb (cell_fault f (kept_of f n) n) 0 ≡ b → Next n (kept_of f n ++ cond b (file_cell f n ∷ []) [])
      go true e = taken (fine f (kept_of f n) n (eqb-true _ _ e))
      go false e = rw append-nil (left_out (unfold why in eqb-false _ _ e))

  -- each of them has vertices that Load would not fault
  pub record Sound (c : List ℕ) : Type 0 where
    pub size : length c ≡ file_dim f + 1
    pub within : out_of (file_vertices f) c ≡ false
    pub once : twice c ≡ false

  cell-size : (c : ℕ) → length (file_cell f c) ≡ file_dim f + 1
  unfolding file_cell
  cell-size c = length-rows _ (file_dim f + 1)

  sound-next : (n : ℕ) (rs : List (List ℕ)) → Next n rs → ((c : List ℕ) → In c (kept_of f n) → Sound c) → (c : List ℕ) → In c rs → Sound c
  sound-next n rs (taken a) h c i = go (Memᴰ.append_cases (kept_of f n) i)
    where
      go : In c (kept_of f n) ⊎ In c (file_cell f n ∷ []) → Sound c
      go (inl j) = h c j
      go (inr j) = rw (Memᴰ.eq_of_singleton j) (record { size = cell-size n; within = a.within; once = a.once })
  sound-next n rs (left_out w) h c i = h c i

  none_first : (c : List ℕ) → In c (kept_of f zero) → ⊥
  unfolding kept_of
  none_first c i = Memᴰ.not-nil i

  pub sound-kept : (n : ℕ) (c : List ℕ) → In c (kept_of f n) → Sound c
  sound-kept zero c i = absurd (none_first c i)
  sound-kept (suc n) c i = sound-next n (kept_of f (suc n)) (next n) (sound-kept n) c i

  -- they are not more than there were
  few-next : (n : ℕ) (rs : List (List ℕ)) → Next n rs → length (kept_of f n) ≤ n → length rs ≤ suc n
  few-next n rs (taken a) l = rw length-append (omega arith)
  few-next n rs (left_out w) l = omega arith

  pub few-kept : (n : ℕ) → length (kept_of f n) ≤ n
  few-kept zero = unfold kept_of in omega arith
  few-kept (suc n) = few-next n (kept_of f (suc n)) (next n) (few-kept n)

  pub kept-few : length (kept f) ≤ file_cells f
  unfolding kept
  kept-few = few-kept (file_cells f)

  -- their bits are in the file
  bits-next : (n : ℕ) (rs : List (List ℕ)) → Next n rs → (length (kept_of f n) ≡ 0) ⊎ (bits_of (file_dim f) (length (kept_of f n)) ≤ 8 * length f)
      → (length rs ≡ 0) ⊎ (bits_of (file_dim f) (length rs) ≤ 8 * length f)
  unfolding cut_off bits_of
  bits-next n rs (taken a) h =
      let e : length (kept_of f n ++ (file_cell f n ∷ [])) ≤ n + 1 = rw length-append (omega (arith, few-kept n)) in
      inr (omega (arith, ltb-false (8 * length f) (32 + 13 * (file_dim f + 1) * (n + 1)) a.whole, mul-le-mul_left (13 * (file_dim f + 1)) e))
  bits-next n rs (left_out w) h = h

  pub bits-kept : (n : ℕ) → (length (kept_of f n) ≡ 0) ⊎ (bits_of (file_dim f) (length (kept_of f n)) ≤ 8 * length f)
  bits-kept zero = inl (unfold kept_of in refl)
  bits-kept (suc n) = bits-next n (kept_of f (suc n)) (next n) (bits-kept n)

-- ---- equal cells
same-turned : (a b : List ℕ) → same a b ≡ false → same b a ≡ false
same-turned a b h = go (cases (same b a))
  where
    go : (same b a ≡ true) ⊎ (same b a ≡ false) → same b a ≡ false
    go (inl e) = absurd (true≢false (sym (same_refl a) ∙ ap (same a) (sym (same-is b a e)) ∙ h))
    go (inr e) = e

-- a cell that equals none of the cells, in the words of equal rows
pub equal-none : (c : List ℕ) (cs : List (List ℕ)) → equal_to c cs ≡ false → any_of (same (sorted c)) (map sorted cs) ≡ false
unfolding equal_to
equal-none c cs h = any_none (same (sorted c)) (map sorted cs) (λ r i. let (b, j, e) = map_is sorted cs i in rw e (same-turned (sorted b) (sorted c) (none_of (λ b. same (sorted b) (sorted c)) h j)))

different-next : (f : List ℕ) (n : ℕ) (rs : List (List ℕ)) → Next f n rs → repeats (map sorted (kept_of f n)) ≡ false → repeats (map sorted rs) ≡ false
different-next f n rs (taken a) h = rw map-append (repeats-last (map sorted (kept_of f n)) (sorted (file_cell f n)) h (equal-none (file_cell f n) (kept_of f n) a.new))
different-next f n rs (left_out w) h = h

pub different-kept : (f : List ℕ) (n : ℕ) → repeats (map sorted (kept_of f n)) ≡ false
different-kept f zero = unfold kept_of repeats up_to any_of in refl
different-kept f (suc n) = different-next f n (kept_of f (suc n)) (next f n) (different-kept f n)

-- ---- the file written
-- the mesh that is written, its cells as the file has them
unfoldable saved_mesh : List ℕ → Mesh
saved_mesh f = record { dims = file_dim f; vertices = file_vertices f; cells = kept f }

-- a file whose bits are in l bytes is not longer
length-within : (D n l : ℕ) → bits_of D n ≤ 8 * l → length_of D n ≤ l
unfolding bits_of length_of
length-within D n l h = omega arith

module _ (f : List ℕ) (a : Headed f) where
  saved-stored : Stored (saved_mesh f)
  unfolding saved_mesh kept out_of
  saved-stored = record {
    low = a.low;
    high = omega (arith, dim-below f);
    vertices = a.vertices;
    cells = omega (arith, few-kept f (file_cells f), a.cells);
    size = λ c i. (sound-kept f (file_cells f) c i).size;
    below = λ c i v j. below c (sound-kept f (file_cells f) c i) v j;
  }
    where
      below : (c : List ℕ) → Sound f c → (v : ℕ) → In v c → v < file_vertices f
      below c s v j = leb-false (file_vertices f) v (none_of (λ x. leb (file_vertices f) x) s.within j)

  saved-file : saved f ≡ file_of (saved_mesh f)
  unfolding saved file_bytes file_of file_bits saved_mesh saved_head first_word
  saved-file = refl

  saved-apart : any_of twice (saved_mesh f).cells ≡ false
  unfolding saved_mesh kept
  saved-apart = any_none twice (kept_of f (file_cells f)) (λ c i. (sound-kept f (file_cells f) c i).once)

  -- it has the same D and N_0, and the cells kept
  pub saved-dim : file_dim (saved f) ≡ file_dim f
  saved-dim = rw saved-file (dims-back (saved_mesh f) saved-stored ∙ unfold saved_mesh in refl)

  pub saved-vertices : file_vertices (saved f) ≡ file_vertices f
  saved-vertices = rw saved-file (vertices-back (saved_mesh f) saved-stored ∙ unfold saved_mesh in refl)

  pub saved-cells : cells_in_file (saved f) ≡ kept f
  saved-cells = rw saved-file (cells-back (saved_mesh f) saved-stored ∙ unfold saved_mesh in refl)

  pub saved-count : file_cells (saved f) ≡ length (kept f)
  saved-count = rw saved-file (count-back (saved_mesh f) saved-stored ∙ unfold saved_mesh in refl)

  saved-different : repeats (map sorted (saved_mesh f).cells) ≡ false
  unfolding saved_mesh kept
  saved-different = different-kept f (file_cells f)

  -- Load accepts it in every book that has room
  pub saved-loads : (us : List ℕ) → 6 + length (kept f) + length (kept f) * (file_dim f + 1) ≤ length us → Loads (saved f) us
  saved-loads us l =
      let n : length (loaded (saved f)) ≤ length us = rw (loaded-length, saved-count, saved-dim) l in
      rw saved-file (stored-loads (saved_mesh f) saved-stored saved-apart saved-different us (rw saved-file at n))

  -- its length, and its bytes
  pub saved-length : length (saved f) ≡ length_of (file_dim f) (length (kept f))
  saved-length = rw saved-file (length-file (saved_mesh f) saved-stored ∙ unfold saved_mesh in refl)

  pub saved-bytes : Bytes (saved f)
  saved-bytes = rw saved-file (unfold file_of in bytes_packed (length_of (saved_mesh f).dims (length (saved_mesh f).cells)) (file_bits (saved_mesh f)) (bits-right (saved_mesh f) saved-stored))

  -- its first 32 bits
  pub saved-word : field (saved f) 0 32 ≡ saved_head f
  saved-word = rw saved-file (word-is (saved_mesh f) saved-stored ∙ unfold saved_mesh saved_head first_word in refl)

  -- no file is longer than 26,628 bytes
  pub saved-short : saved_length f ≤ 26628
  unfolding saved_length length_of
  saved-short =
      let n = length (kept f) in
      let l : n ≤ 4096 = omega (arith, kept-few f, a.cells) in
      let d : 13 * (file_dim f + 1) ≤ 52 = omega (arith, dim-below f) in
      rw saved-length (omega (arith, mul-le-mul_right n d))

  -- nor than the file that came
  pub saved-within : saved_length f ≤ length f
  unfolding saved_length kept
  saved-within = rw saved-length (go (bits-kept f (file_cells f)))
    where
      go : (length (kept_of f (file_cells f)) ≡ 0) ⊎ (bits_of (file_dim f) (length (kept_of f (file_cells f))) ≤ 8 * length f) → length_of (file_dim f) (length (kept_of f (file_cells f))) ≤ length f
      go (inl z) = rw z (unfold length_of in omega (arith, a.long))
      go (inr l) = length-within (file_dim f) (length (kept_of f (file_cells f))) (length f) l

  -- it is put at the front of the lent bytes
  pub saved-put : (bs : List ℕ) → saved_length f ≤ length bs → put_file (saved_head f) (joined (kept f)) bs ≡ saved f ++ drop (saved_length f) bs
  unfolding saved_length
  saved-put bs l = rw saved-file (unfold saved_head first_word saved_mesh in file-put (saved_mesh f) saved-stored bs (rw saved-file at l))

-- ---- kept and dropped
module _ (f : List ℕ) where
  -- each of the first n cells is kept or dropped
  pub accounted : (n : ℕ) → length (kept_of f n) + length (dropped_of f n) ≡ n
  unfolding dropped_of
  accounted zero = unfold kept_of up_to keep in refl
  accounted (suc n) = rw (keep-last (λ c. not (eqb (why f c) 0)) n) (one_more n (accounted n))
    where
      one_more : (n : ℕ) → length (kept_of f n) + length (keep (λ c. not (eqb (why f c) 0)) (up_to n)) ≡ n
          → length (kept_of f (suc n)) + length (keep (λ c. not (eqb (why f c) 0)) (up_to n) ++ cond (not (eqb (why f n) 0)) (n ∷ []) []) ≡ suc n
      one_more n e = unfold kept_of why in go (eqb (cell_fault f (kept_of f n) n) 0)
        where
          go : (b : Bool) → length (kept_of f n ++ cond b (file_cell f n ∷ []) []) + length (keep (λ c. not (eqb (why f c) 0)) (up_to n) ++ cond (not b) (n ∷ []) []) ≡ suc n
          go true = simp length-append (omega arith)
          go false = simp length-append (omega arith)

  pub all-accounted : length (kept f) + dropped_count f ≡ file_cells f
  unfolding kept dropped_count
  all-accounted = accounted (file_cells f)

  -- the cells kept, by their numbers
  pub kept-numbers : (n : ℕ) → kept_of f n ≡ map (file_cell f) (keep (λ c. eqb (why f c) 0) (up_to n))
  kept-numbers zero = unfold kept_of up_to keep in refl
  kept-numbers (suc n) = rw (keep-last (λ c. eqb (why f c) 0) n, map-append) (one_more (kept-numbers n))
    where
      last : (b : Bool) → cond b (file_cell f n ∷ []) [] ≡ map (file_cell f) (cond b (n ∷ []) [])
      last true = refl
      last false = refl

      one_more : kept_of f n ≡ map (file_cell f) (keep (λ c. eqb (why f c) 0) (up_to n)) → kept_of f (suc n) ≡ map (file_cell f) (keep (λ c. eqb (why f c) 0) (up_to n)) ++ map (file_cell f) (cond (eqb (why f n) 0) (n ∷ []) [])
      one_more e = unfold kept_of why in ap (λ (r : List (List ℕ)). r ++ cond (eqb (cell_fault f (kept_of f n) n) 0) (file_cell f n ∷ []) []) e ∙ ap (λ (r : List (List ℕ)). map (file_cell f) (keep (λ c. eqb (why f c) 0) (up_to n)) ++ r) (last (eqb (cell_fault f (kept_of f n) n) 0))

  -- two numbers come for each one dropped
  pub pairs-so-far : (n : ℕ) → length (pairs_of f n) ≡ 2 * length (dropped_of f n)
  unfolding pairs_of
  pairs-so-far n =
      length-joined 2 (map (λ c. c ∷ why f c ∷ []) (dropped_of f n)) (λ q l. ap length (get_d_map (λ c. c ∷ why f c ∷ []) (dropped_of f n) q 0 [] (rw length-map at l)))
      ∙ rw length-map

  pub pairs-length : length (dropped_pairs f) ≡ 2 * dropped_count f
  unfolding dropped_pairs dropped_count
  pairs-length = pairs-so-far (file_cells f)

-- ---- lent places after the call
-- what is put at the front of lent places leaves their length
pub front_length : (n : ℕ) (new lent : List ℕ) → (n ≡ 0 → length new ≤ length lent) → length (at_front n new lent) ≡ length lent
unfolding at_front
front_length n new lent h = go (eqb n 0) refl
  where
    go : (b : Bool) → eqb n 0 ≡ b → length (cond b (new ++ drop (length new) lent) lent) ≡ length lent
    go true e = let l = h (eqb-true n 0 e) in simp (length-append, length-drop) (omega arith)
    go false e = refl
