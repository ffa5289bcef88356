-- A loaded mesh as words, from the cells that are put down: the head, the offsets and the cells, one behind the other, then zeros.
use mathlib.Core.Path.{◌≡◌, refl, sym, ap, ◌∙◌}
use mathlib.Core.List.{List, [], ◌∷◌, ◌++◌, map, map-map}
use Prim.Native.Nat.{ℕ, zero, suc, ◌+◌, ◌*◌, ◌%◌, ◌^◌, ◌≤◌, ◌<◌}
use native.Mathlib.Omega.{arith}
use lib.ListN.{length, take, drop, length-append, length-drop}
use lib.Seq.{take_at}
use Rattle.rules.specs.Lists.{up_to, joined, filled, sorted}
use Rattle.rules.specs.File.{field, file_dim, file_cells, file_cell, cells_in_file, head_dim, head_cells}
use Rattle.rules.specs.Book.{key, relation}
use Rattle.rules.specs.Calls.{loaded}
use Rattle.rules.proofs.Head.{head-dim, head-cells}
use Rattle.rules.proofs.LoadedWords.{row-size}
use Rattle.dayfile.specs.Faults.{head_number}
use Rattle.dayfile.specs.Words.{Put, cells_in}
use Rattle.dayfile.proofs.HeadFaults.{passed}
use Rattle.dayfile.proofs.FourWords.{cells_are}
use Rattle.relations.specs.Words.{Written}
use Rattle.relations.proofs.Appended.{written_then}
use Rattle.relations.proofs.Listing.{even-written}
use Rattle.settle.specs.Settled.{cleared}
use Rattle.loading.specs.Filling.{Filling}
use Rattle.loading.proofs.Loading.{words-needed}

-- 2^(4D), as a shift gives it
pub power : (d : ℕ) → d < 4 → (1 * 2 ^ (4 * d)) % 4294967296 ≡ 2 ^ key d 0
unfolding key
power zero l = refl
power (suc zero) l = refl
power (suc (suc zero)) l = refl
power (suc (suc (suc zero))) l = refl
power (suc (suc (suc (suc d)))) l = absurd (omega arith)

-- a file without a fault in its head, its cells put down, and a book with room
pub filling : (f was words book : List ℕ) → head_number f ≡ 0 → Put f was words (file_cells f) → length (loaded f) ≤ length book → Filling f words book
filling f was words book z p l = record {
  few = rw (head-cells f) (passed f z).few-cells;
  cells = cells_are f was words (field f 0 32) refl (rw (head-cells f) p);
  room = l;
}

module _ (f : List ℕ) where
  rows_are : map sorted (cells_in_file f) ≡ map (λ c. sorted (file_cell f c)) (up_to (file_cells f))
  unfolding cells_in_file
  rows_are = map-map sorted (file_cell f) (up_to (file_cells f))

  -- the three parts written one behind the other, by what was read of the head, are the loaded words
  pub all-written : (words : List ℕ) (h dim cells used : ℕ) {ws vs us ts : List ℕ} → h ≡ field f 0 32 → dim ≡ head_dim h → cells ≡ head_cells h
      → used ≡ 6 + head_cells h + head_cells h * (head_dim h + 1) → cells_in (field f 0 32) words ≡ map sorted (cells_in_file f)
      → Written ws 0 (h ∷ (2 ^ key (head_dim h) 0) ∷ 0 ∷ 0 ∷ used ∷ []) 5 vs
      → Written vs 5 (map (λ i. i * (dim + 1)) (up_to (cells + 1))) (5 + (cells + 1)) us
      → Written us (6 + cells) (joined (cells_in h words)) (6 + cells + head_cells h * (head_dim h + 1)) ts
      → Written ws 0 (loaded f) used ts
  unfolding loaded
  all-written words h dim cells used {us = us} {ts = ts} e d n u k a b c =
      let g : used ≡ length (loaded f) = words-needed f h used e u in
      let m : cells ≡ file_cells f = n ∙ ap head_cells e ∙ head-cells f in
      let q : dim ≡ file_dim f = d ∙ ap head_dim e ∙ head-dim f in
      let p : 6 + cells ≡ 5 + file_cells f + 1 = omega (arith, m) in
      let t : 6 + cells + head_cells h * (head_dim h + 1) ≡ used = omega (arith, n, u) in
      let w : Written us (5 + file_cells f + 1) (joined (map sorted (cells_in_file f))) used ts = rw (t, p, e, k) at c in
      let r = even-written (λ c. sorted (file_cell f c)) (file_dim f + 1) (row-size f) (file_cells f) (rw (q, m) at b) (rw rows_are at w) in
      let z : 5 + length (relation (map sorted (cells_in_file f))) ≡ used = omega (arith, g) in
      rw (z, rows_are) (written_then (rw (e, head-dim f) at a) r)

-- what is behind them cleared
pub whole : (xs ws vs : List ℕ) (u : ℕ) → u ≡ length xs → u ≤ length ws → Written ws 0 xs u vs → cleared u vs ≡ filled (length ws) xs
unfolding cleared filled
whole xs ws vs u e l w =
    let v : vs ≡ xs ++ drop u ws = w.words l in
    let n : length vs ≡ length ws = ap length v ∙ simp (length-append, length-drop) (omega arith) in
    let t : take u vs ≡ xs = ap (take u) v ∙ take_at xs (drop u ws) u (sym e) in
    rw (t, n, e)
