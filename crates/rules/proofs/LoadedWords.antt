-- How many words an accepted file takes, and zeros behind words.
use mathlib.Core.Path.{◌≡◌, sym, ap, ◌∙◌}
use mathlib.Core.List.{List, [], map}
use Prim.Native.Nat.{ℕ, ◌+◌, ◌-◌, ◌*◌, ◌<◌}
use native.Mathlib.Nat.{mul_comm}
use native.Mathlib.Decide.{dec_lt}
use native.Mathlib.Omega.{arith}
use lib.ListN.{length, get_or, replicate, length-map, get_or-append, get_or-eq_default}
use lib.Seq.{get_or-append-add}
use Rattle.rules.specs.Lists.{up_to, joined, sorted, filled}
use Rattle.rules.specs.File.{file_dim, file_cells, file_cell, cells_in_file}
use Rattle.rules.specs.Book.{relation}
use Rattle.rules.specs.Calls.{loaded}
use Rattle.rules.proofs.Numbered.{length-rows, get_d_rows, get_d_map}
use Rattle.rules.proofs.Sorted.{length-sorted}
use Rattle.rules.proofs.Bits.{length-joined}
use Rattle.rules.proofs.Relation.{length-relation}
use Rattle.rules.proofs.RightBook.{get_or-zeros}

-- zeros behind the words change no word that is read
pub get_or-filled : (n : ℕ) (ws : List ℕ) (i : ℕ) → get_or (filled n ws) i 0 ≡ get_or ws i 0
unfolding filled
get_or-filled n ws i =
    elim (dec_lt i (length ws)) [
      | yes l ↦ get_or-append ws (replicate (n - length ws) 0) 0 i l
      | no m ↦
          let e : length ws + (i - length ws) ≡ i = omega arith in
          let a = get_or-append-add ws (replicate (n - length ws) 0) (i - length ws) 0 in
          rw e at a ∙ get_or-zeros (n - length ws) (i - length ws) ∙ sym (get_or-eq_default ws 0 {n = i} (omega arith))
    ]

module _ (f : List ℕ) where
  -- the cells, each ascending
  abbrev rows : List (List ℕ)
  rows = map sorted (cells_in_file f)

  rows-length : length rows ≡ file_cells f
  unfolding cells_in_file
  rows-length = length-map (cells_in_file f) sorted ∙ length-rows (file_cell f) (file_cells f)

  pub row-at : (c : ℕ) → c < file_cells f → get_or rows c [] ≡ sorted (file_cell f c)
  unfolding cells_in_file
  row-at c l =
      get_d_map sorted (map (file_cell f) (up_to (file_cells f))) c [] [] (rw (length-rows (file_cell f) (file_cells f)) l)
      ∙ ap sorted (get_d_rows (file_cell f) (file_cells f) c [] l)

  pub row-size : (c : ℕ) → length (sorted (file_cell f c)) ≡ file_dim f + 1
  unfolding file_cell
  row-size c = length-sorted _ ∙ length-rows _ (file_dim f + 1)

  row-long : (q : ℕ) → q < length rows → length (get_or rows q []) ≡ file_dim f + 1
  row-long q l = let m : q < file_cells f = rw rows-length at l in ap length (row-at q m) ∙ row-size q

  all-long : length (joined rows) ≡ file_cells f * (file_dim f + 1)
  all-long = length-joined (file_dim f + 1) rows row-long ∙ ap (λ (x : ℕ). (file_dim f + 1) * x) rows-length ∙ mul_comm (file_dim f + 1) (file_cells f)

  relation-long : length (relation rows) ≡ file_cells f + 1 + file_cells f * (file_dim f + 1)
  relation-long = length-relation rows ∙ rw (rows-length, all-long)

  -- the used length
  pub loaded-length : length (loaded f) ≡ 6 + file_cells f + file_cells f * (file_dim f + 1)
  unfolding loaded
  loaded-length = omega (arith, relation-long)
