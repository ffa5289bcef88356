-- A file read and written again: an accepted file is known by its first 32 bits and its cells, so what is written from them is the file with each cell ascending.
use mathlib.Core.Path.{◌≡◌, sym, ap, ◌∙◌}
use mathlib.Core.Bool.{true, false}
use mathlib.Core.List.{List, [], map}
use Prim.Native.Nat.{ℕ, zero, suc, ◌+◌, ◌-◌, ◌*◌, ◌/◌, ◌%◌, ◌^◌, ◌≤◌, ◌<◌}
use native.Mathlib.Nat.{pow-zero, div-one, zero-add, mul_assoc, mul_comm, div-add-mod, mod-lt, div-lt_iff_lt-mul, le_refl}
use native.Mathlib.Decide.{dec_lt}
use native.Mathlib.Omega.{arith}
use lib.ListN.{length, get_or}
use lib.Dec.{eqb}
use borrow.Author.Tests.{eqb-false}
use Rattle.rules.specs.Lists.{all_of, joined, ascends, sorted}
use Rattle.rules.specs.File.{bit_at, field, file_dim, file_vertices, file_cells, file_cell, cells_in_file, bits_of, length_of, pad_set, file_bytes, head_dim, head_cells}
use Rattle.rules.specs.Calls.{loaded, load_number}
use Rattle.rules.specs.Truth.{mesh_of}
use Rattle.rules.proofs.Tests.{none_of, all-at}
use Rattle.rules.proofs.Keep.{up_to-of}
use Rattle.rules.proofs.Numbered.{get_d_rows}
use Rattle.rules.proofs.Masks.{bit-half}
use Rattle.rules.proofs.Sorted.{sorted-same}
use Rattle.rules.proofs.Accepted.{Loads, loads}
use Rattle.rules.proofs.Bits.{length-packed}
use Rattle.rules.proofs.TrueLoad.{mesh-dims, mesh-vertices, mesh-cells, cells_are, mesh-formed, word-zero}
use Rattle.rules.proofs.Stored.{Stored, file_bits, file_of, bits-right, word-is, cells-back, dims-back, vertices-back}
use Rattle.rules.proofs.Written.{map_same, stored, file-loads}
use Rattle.rules.proofs.BitsWritten.{Bytes, bytes_same, bytes_packed}
use Rattle.rules.proofs.Head.{head-dim, head-cells}
use Rattle.rules.proofs.Padded.{bit_below}

-- ---- the bits of a file, from its fields
pub field-bit : (f : List ℕ) (i w j : ℕ) → j < w → bit_at f (i + j) ≡ field f i w / 2 ^ (w - suc j) % 2
unfolding field
field-bit f i zero j l = absurd (omega arith)
field-bit f i (suc w) j l =
    elim (dec_lt j w) [
      | yes k ↦
          let e : suc w - suc j ≡ suc (w - suc j) = omega arith in
          let b = bit_below f (i + w) in
          let h : (2 * field f i w + bit_at f (i + w)) / 2 ≡ field f i w = omega arith in
          rw (e, bit-half, h) (field-bit f i w j k)
      | no k ↦
          let e : suc w - suc j ≡ 0 = omega arith in
          let q : j ≡ w = omega arith in
          let b = bit_below f (i + w) in
          rw (e, pow-zero, div-one, q) (omega arith)
    ]

module _ (f : List ℕ) where
  bit-head : (p : ℕ) → p < 32 → bit_at f p ≡ field f 0 32 / 2 ^ (32 - suc p) % 2
  bit-head p l = rw zero-add at (field-bit f 0 32 p l)

  -- vertex q of the cells, one after another
  vertex-at : (q : ℕ) → q < (file_dim f + 1) * file_cells f
      → field f (32 + 13 * q) 13 ≡ get_or (get_or (cells_in_file f) (q / (file_dim f + 1)) []) (q % (file_dim f + 1)) 0
  unfolding cells_in_file file_cell
  vertex-at q l =
      let d = file_dim f + 1 in
      let c : q / d < file_cells f = (div-lt_iff_lt-mul {k = d} {x = q} {y = file_cells f} (omega arith)).1 (rw (mul_comm (file_cells f) d) l) in
      let k : q % d < d = mod-lt q (omega arith) in
      sym (rw (get_d_rows (file_cell f) (file_cells f) (q / d) [] c, get_d_rows (λ k. field f (32 + 13 * (d * (q / d) + k)) 13) d (q % d) 0 k, div-add-mod q d))

  bit-vertex : (p : ℕ) → 32 ≤ p → p < bits_of (file_dim f) (file_cells f)
      → bit_at f p ≡ get_or (get_or (cells_in_file f) ((p - 32) / 13 / (file_dim f + 1)) []) ((p - 32) / 13 % (file_dim f + 1)) 0 / 2 ^ (13 - suc ((p - 32) % 13)) % 2
  unfolding bits_of
  bit-vertex p h l =
      let m = mul_assoc 13 (file_dim f + 1) (file_cells f) in
      let e : 32 + 13 * ((p - 32) / 13) + (p - 32) % 13 ≡ p = omega arith in
      ap (bit_at f) (sym e) ∙ field-bit f (32 + 13 * ((p - 32) / 13)) 13 ((p - 32) % 13) (omega arith)
      ∙ rw (vertex-at ((p - 32) / 13) (omega arith))

  bit-pad : pad_set f ≡ false → (p : ℕ) → p < 8 * length f → bits_of (file_dim f) (file_cells f) ≤ p → bit_at f p ≡ 0
  unfolding pad_set
  bit-pad h p l k =
      let s = bits_of (file_dim f) (file_cells f) in
      let e : s + (p - s) ≡ p = omega arith in
      let n : bit_at f (s + (p - s)) ≡ 1 → ⊥ = eqb-false (bit_at f (s + (p - s))) 1 (none_of (λ k. eqb (bit_at f (s + k)) 1) h (up_to-of (p - s) (8 * length f - s) (omega arith))) in
      let m : bit_at f p ≡ 1 → ⊥ = rw e at n in
      let b = bit_below f p in
      omega arith

-- ---- two files with the same first 32 bits and the same cells are the same
module _ (f g : List ℕ) (a : Bytes f) (b : Bytes g) (n : length f ≡ length g) (w : field f 0 32 ≡ field g 0 32) (c : cells_in_file f ≡ cells_in_file g) (p : pad_set f ≡ false) (q : pad_set g ≡ false) where
  same-dim : file_dim f ≡ file_dim g
  same-dim = sym (head-dim f) ∙ ap head_dim w ∙ head-dim g

  same-cells : file_cells f ≡ file_cells g
  same-cells = sym (head-cells f) ∙ ap head_cells w ∙ head-cells g

  same_bit : (i : ℕ) → i < 8 * length f → bit_at f i ≡ bit_at g i
  same_bit i l =
      elim (dec_lt i 32) [
        | yes h ↦ bit-head f i h ∙ rw w (sym (bit-head g i h))
        | no h ↦ elim (dec_lt i (bits_of (file_dim f) (file_cells f))) [
          | yes k ↦ bit-vertex f i (omega arith) k ∙ rw (same-dim, c) (sym (bit-vertex g i (omega arith) (rw (same-dim, same-cells) at k)))
          | no k ↦
              let m : bits_of (file_dim f) (file_cells f) ≤ i = omega arith in
              bit-pad f p i l m ∙ sym (bit-pad g q i (rw (← n) l) (rw (same-dim, same-cells) at m))
        ]
      ]

  pub file-known : f ≡ g
  file-known = bytes_same f g a b n same_bit

-- ---- the file read and written again
-- the bytes written from a file's own first 32 bits and its cells, each ascending
unfoldable pub again : List ℕ → List ℕ
again f = file_bytes (file_dim f) (file_cells f) (field f 0 32) (joined (map sorted (cells_in_file f)))

module _ (f ws : List ℕ) (h : load_number f ws ≡ 0) where
  accepted : Loads f ws
  accepted = loads f ws h

  stored-mesh : Stored (mesh_of f)
  stored-mesh = stored (mesh_of f) (mesh-formed f ws accepted)

  again-is : again f ≡ file_of (mesh_of f)
  unfolding again file_bytes file_of file_bits
  again-is = rw (word-zero f ws accepted, mesh-dims f, mesh-cells f, cells_are f)

  -- it has the same D, N_0 and cells in the same order, each cell ascending
  pub again-dim : file_dim (again f) ≡ file_dim f
  again-dim = rw again-is (dims-back (mesh_of f) stored-mesh ∙ mesh-dims f)

  pub again-vertices : file_vertices (again f) ≡ file_vertices f
  again-vertices = rw again-is (vertices-back (mesh_of f) stored-mesh ∙ mesh-vertices f)

  pub again-cells : cells_in_file (again f) ≡ map sorted (cells_in_file f)
  again-cells = rw again-is (cells-back (mesh_of f) stored-mesh ∙ mesh-cells f)

  again-loads : Loads (again f) (loaded (again f))
  again-loads = rw again-is (file-loads (mesh_of f) (mesh-formed f ws accepted) (loaded (file_of (mesh_of f))) (le_refl _))

  again-word : field (again f) 0 32 ≡ field f 0 32
  again-word = rw again-is (word-is (mesh_of f) stored-mesh ∙ sym (word-zero f ws accepted))

  again-length : length (again f) ≡ length f
  unfolding again file_bytes
  again-length = length-packed (length_of (file_dim f) (file_cells f)) _ ∙ sym accepted.size

  again-bytes : Bytes (again f)
  again-bytes = rw again-is (unfold file_of in bytes_packed (length_of (mesh_of f).dims (length (mesh_of f).cells)) (file_bits (mesh_of f)) (bits-right (mesh_of f) stored-mesh))

  -- and a file whose cells ascend already comes back byte for byte
  pub again-same : Bytes f → all_of ascends (cells_in_file f) ≡ true → again f ≡ f
  again-same a u =
      let s : map sorted (cells_in_file f) ≡ cells_in_file f = map_same sorted (cells_in_file f) (λ c i. sorted-same c (all-at ascends u i)) in
      file-known (again f) f again-bytes a again-length again-word (again-cells ∙ s) again-loads.ended accepted.ended
