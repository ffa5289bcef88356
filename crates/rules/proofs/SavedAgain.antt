-- Salvage: a file that Load accepts comes back as it is; a file that is saved stays as it is when saved again.
use mathlib.Core.Path.{◌≡◌, refl, sym, ◌∙◌}
use mathlib.Core.Logic.{◌⊎◌, inl, inr}
use mathlib.Core.Bool.{true, false, not}
use mathlib.Core.List.{List, [], ◌∷◌, map, map-append, Memᴰ as In}
use Prim.Native.Nat.{ℕ, zero, suc, ◌+◌, ◌*◌, ◌≤◌, ◌<◌}
use native.Mathlib.Nat.{le_refl, mul-le-mul_left}
use native.Mathlib.Omega.{arith}
use lib.ListN.{length, replicate, length-replicate}
use lib.Dec.{eqb}
use borrow.Author.Tests.{eq-eqb, le-ltb}
use Rattle.rules.specs.Lists.{up_to, same, joined, sorted}
use Rattle.rules.specs.File.{file_dim, file_vertices, file_cells, file_cell, cells_in_file, bits_of, length_of, out_of, twice, pad_set}
use Rattle.rules.specs.Salvage.{Headed, cut_off, equal_to, kept_of, why, kept, dropped_of, pairs_of, dropped_pairs, dropped_count, saved_head, saved, spare_was, pad_was, length_was}
use Rattle.rules.proofs.Tests.{cases, any_none, none_of, same-is}
use Rattle.rules.proofs.Keep.{up_to-of, up_to-is}
use Rattle.rules.proofs.Numbered.{length-rows}
use Rattle.rules.proofs.Distinct.{map_of, map_is}
use Rattle.rules.proofs.First.{keep-none}
use Rattle.rules.proofs.Accepted.{Loads}
use Rattle.rules.proofs.Fields.{first-word}
use Rattle.rules.proofs.BitsWritten.{Bytes}
use Rattle.rules.proofs.Unlike.{unlike-of}
use Rattle.rules.proofs.TrueLoad.{cells_are}
use Rattle.rules.proofs.LoadedWords.{row-at}
use Rattle.rules.proofs.FileAgain.{file-known}
use Rattle.rules.proofs.Salvaged.{Fine, fine-kept, saved-cells, saved-loads, saved-length, saved-bytes, saved-word}

-- ---- a file that Load accepts
module _ (f us : List ℕ) (a : Loads f us) where
  pub headed : Headed f
  headed = record { long = rw a.size (unfold length_of in omega arith); low = a.low; vertices = a.vertices; cells = a.cells }

  cell_in : (n : ℕ) → n < file_cells f → In (file_cell f n) (cells_in_file f)
  unfolding cells_in_file
  cell_in n l = map_of (file_cell f) (up_to-of n (file_cells f) l)

  all_whole : (n : ℕ) → n < file_cells f → cut_off f n ≡ false
  unfolding cut_off bits_of length_of
  all_whole n l =
      let h : n + 1 ≤ file_cells f = omega arith in
      le-ltb (8 * length f) (32 + 13 * (file_dim f + 1) * (n + 1)) (omega (arith, a.size, mul-le-mul_left (13 * (file_dim f + 1)) h))

  apart-at : (k n : ℕ) → k < n → n < file_cells f → same (sorted (file_cell f k)) (sorted (file_cell f n)) ≡ false
  apart-at k n q l = go (cases (same (sorted (file_cell f k)) (sorted (file_cell f n))))
    where
      go : (same (sorted (file_cell f k)) (sorted (file_cell f n)) ≡ true) ⊎ (same (sorted (file_cell f k)) (sorted (file_cell f n)) ≡ false) → same (sorted (file_cell f k)) (sorted (file_cell f n)) ≡ false
      go (inl e) =
          let p : k < file_cells f = omega arith in
          absurd (omega (arith, unlike-of (map sorted (cells_in_file f)) a.unlike k n (rw (cells_are f) p) (rw (cells_are f) l) (row-at f k p ∙ same-is _ _ e ∙ sym (row-at f n l))))
      go (inr e) = e

  all_new : (n : ℕ) → n < file_cells f → equal_to (file_cell f n) (map (file_cell f) (up_to n)) ≡ false
  unfolding equal_to
  all_new n l = any_none (λ b. same (sorted b) (sorted (file_cell f n))) (map (file_cell f) (up_to n)) (λ b i. old b i)
    where
      old : (b : List ℕ) → In b (map (file_cell f) (up_to n)) → same (sorted b) (sorted (file_cell f n)) ≡ false
      old b i =
          let (k, j, e) = map_is (file_cell f) (up_to n) i in
          rw e (apart-at k n (up_to-is k n j) l)

  all-fine : (n : ℕ) → n < file_cells f → Fine f (map (file_cell f) (up_to n)) n
  all-fine n l = record {
    whole = all_whole n l;
    within = none_of (out_of (file_vertices f)) a.within (cell_in n l);
    once = none_of twice a.apart (cell_in n l);
    new = all_new n l;
  }

  kept-first : (n : ℕ) → n ≤ file_cells f → kept_of f n ≡ map (file_cell f) (up_to n)
  unfolding kept_of up_to
  kept-first zero l = refl
  kept-first (suc n) l =
      let e = kept-first n (omega arith) in
      rw (e, fine-kept f (map (file_cell f) (up_to n)) n (all-fine n l)) (sym (map-append (file_cell f) (up_to n) (n ∷ [])))

  -- every cell is kept, none is dropped, and the file comes back byte for byte
  pub kept-all : kept f ≡ cells_in_file f
  unfolding kept cells_in_file
  kept-all = kept-first (file_cells f) (le_refl _)

  pub none-why : (n : ℕ) → n < file_cells f → why f n ≡ 0
  unfolding why
  none-why n l = rw (kept-first n (omega arith)) (fine-kept f (map (file_cell f) (up_to n)) n (all-fine n l))

  pub none_dropped : dropped_of f (file_cells f) ≡ []
  unfolding dropped_of
  none_dropped = keep-none (λ c. not (eqb (why f c) 0)) (file_cells f) (λ c l. rw (none-why c l))

  pub nothing-listed : dropped_pairs f ≡ []
  unfolding dropped_pairs pairs_of joined
  nothing-listed = rw none_dropped

  pub nothing-counted : dropped_count f ≡ 0
  unfolding dropped_count
  nothing-counted = rw none_dropped

  kept-number : length (kept f) ≡ file_cells f
  kept-number = rw kept-all (unfold cells_in_file in length-rows (file_cell f) (file_cells f))

  pub saved-same : Bytes f → saved f ≡ f
  saved-same b =
      file-known (saved f) f (saved-bytes f headed) b
      (saved-length f headed ∙ rw kept-number (sym a.size))
      (saved-word f headed ∙ unfold saved_head in rw kept-number (omega (arith, first-word f, a.spare)))
      (saved-cells f headed ∙ kept-all)
      (saved-loads f headed (loaded-room f) (rw length-replicate (le_refl _))).ended a.ended
    where
      loaded-room : List ℕ → List ℕ
      loaded-room f = replicate (6 + length (kept f) + length (kept f) * (file_dim f + 1)) 0

  -- and nothing was wrong besides
  pub nothing-wrong : (spare_was f ≡ false) × (pad_was f ≡ false) × (length_was f ≡ false)
  nothing-wrong = (unfold spare_was in rw a.spare, pad, unfold length_was in rw (eq-eqb (length f) (length_of (file_dim f) (file_cells f)) a.size))
    where
      pad : pad_was f ≡ false
      pad = unfold pad_was pad_set in rw a.size at a.ended

-- ---- salvaged twice
module _ (f : List ℕ) (a : Headed f) where
  again : Loads (saved f) (replicate (6 + length (kept f) + length (kept f) * (file_dim f + 1)) 0)
  again = saved-loads f a _ (rw length-replicate (le_refl _))

  pub saved-twice : (saved (saved f) ≡ saved f) × (dropped_pairs (saved f) ≡ [])
  saved-twice = (saved-same (saved f) _ again (saved-bytes f a), nothing-listed (saved f) _ again)

  pub saved-right : (spare_was (saved f) ≡ false) × (pad_was (saved f) ≡ false) × (length_was (saved f) ≡ false)
  saved-right = nothing-wrong (saved f) _ again
