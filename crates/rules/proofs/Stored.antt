-- The file of a mesh, its cells' vertices in any order, written and read again: its numbers and its cells come back, and it has no fault.
use mathlib.Core.Path.{◌≡◌, refl, sym, ap, ◌∙◌}
use mathlib.Core.Bool.{false}
use mathlib.Core.List.{List, [], ◌++◌, map, Memᴰ as In}
use Prim.Native.Nat.{ℕ, ◌+◌, ◌-◌, ◌*◌, ◌^◌, ◌≤◌, ◌<◌}
use native.Mathlib.Nat.{zero-add, mul-suc, mul_assoc, mul-le-mul_left}
use native.Mathlib.Omega.{arith}
use lib.ListN.{length, get_or, drop, length-append, length-map, get_or-append, get_or-eq_default}
use lib.Seq.{get_or-append-add}
use lib.Dec.{eqb, ltb, leb}
use borrow.Author.Tests.{ltb-true, lt-ltb, lt-leb, le-leb}
use Rattle.rules.specs.Lists.{up_to, any_of, all_of, repeats, joined, sorted}
use Rattle.rules.specs.File.{bit_at, field, file_dim, file_vertices, file_cells, file_spare, file_cell, cells_in_file, bits_of, length_of, out_of, twice, pad_set, bits_in, packed, file_bytes, head_dim, head_cells, head_length, put_file}
use Rattle.rules.specs.Calls.{loaded}
use Rattle.rules.specs.Truth.{Mesh, first_word}
use Rattle.rules.proofs.Tests.{get_or-in, any_none, all-of, all-place, all_append, all_map}
use Rattle.rules.proofs.Keep.{up_to-is}
use Rattle.rules.proofs.Numbered.{get_d_map, rows_agree, rows_all}
use Rattle.rules.proofs.Bits.{Bits, length-packed, packed-bit, length-bits_in, bits-bits_in, field_is, length-joined, get_or-joined, all-joined}
use Rattle.rules.proofs.Fields.{field_below, first-word, dim-below}
use Rattle.rules.proofs.Accepted.{Loads}

-- the bits of a mesh's file, and its bytes
unfoldable pub file_bits : Mesh → List ℕ
file_bits m = bits_in 32 (first_word m) ++ joined (map (bits_in 13) (joined m.cells))

unfoldable pub file_of : Mesh → List ℕ
file_of m = packed (length_of m.dims (length m.cells)) (file_bits m)

-- a mesh as a file may hold it: cells of D + 1 vertices below N_0, in any order
pub record Stored (m : Mesh) : Type 0 where
  pub low : 0 < m.dims
  pub high : m.dims ≤ 3
  pub vertices : m.vertices ≤ 8192
  pub cells : length m.cells ≤ 4096
  pub size : (c : List ℕ) → In c m.cells → length c ≡ m.dims + 1
  pub below : (c : List ℕ) → In c m.cells → (v : ℕ) → In v c → v < m.vertices

module _ (m : Mesh) (s : Stored m) where
  -- ---- the vertices of all cells
  abbrev vertices : List ℕ
  vertices = joined m.cells

  cell-size : (c : ℕ) → c < length m.cells → length (get_or m.cells c []) ≡ m.dims + 1
  cell-size c l = s.size (get_or m.cells c []) (get_or-in m.cells c [] l)

  vertices-length : length vertices ≡ (m.dims + 1) * length m.cells
  vertices-length = length-joined (m.dims + 1) m.cells cell-size

  vertex-at : (c k : ℕ) → c < length m.cells → k < m.dims + 1 → get_or vertices ((m.dims + 1) * c + k) 0 ≡ get_or (get_or m.cells c []) k 0
  vertex-at c k l h = get_or-joined (m.dims + 1) m.cells cell-size c k l h

  vertex-below : (q : ℕ) → q < length vertices → get_or vertices q 0 < 2 ^ 13
  vertex-below q l =
      ltb-true _ _
      (all-place (λ v. ltb v (2 ^ 13)) (joined m.cells) 0
      (all-joined (λ v. ltb v (2 ^ 13)) m.cells (all-of (all_of (λ v. ltb v (2 ^ 13))) m.cells (λ c i. all-of (λ v. ltb v (2 ^ 13)) c (λ v j. lt-ltb v (2 ^ 13) (omega (arith, s.below c i v j, s.vertices))))))
      q l)

  -- ---- the bits
  pub bits-right : Bits (file_bits m)
  unfolding file_bits
  bits-right =
      all_append (λ b. ltb b 2) (bits_in 32 (first_word m)) (joined (map (bits_in 13) (joined m.cells))) (bits-bits_in 32 (first_word m))
      (all-joined (λ b. ltb b 2) (map (bits_in 13) (joined m.cells))
      (all_map (all_of (λ b. ltb b 2)) (bits_in 13) (joined m.cells) (all-of (λ x. all_of (λ b. ltb b 2) (bits_in 13 x)) (joined m.cells) (λ x i. bits-bits_in 13 x))))

  row-bits : (q : ℕ) → q < length (map (bits_in 13) vertices) → length (get_or (map (bits_in 13) vertices) q []) ≡ 13
  row-bits q l =
      let h : q < length vertices = rw length-map at l in
      rw (get_d_map (bits_in 13) vertices q 0 [] h) (length-bits_in 13 (get_or vertices q 0))

  bits-length : length (file_bits m) ≡ 32 + 13 * length vertices
  unfolding file_bits
  bits-length =
      length-append (bits_in 32 (first_word m)) (joined (map (bits_in 13) vertices))
      ∙ rw (length-bits_in 32 (first_word m), length-joined 13 (map (bits_in 13) vertices) row-bits, length-map)

  all-bits : 13 * (m.dims + 1) * length m.cells ≡ 13 * length vertices
  all-bits = rw vertices-length (mul_assoc 13 (m.dims + 1) (length m.cells))

  -- the file has room for them
  bytes : ℕ
  bytes = length_of m.dims (length m.cells)

  bytes_fit : 32 + 13 * length vertices ≤ 8 * bytes
  unfolding bytes length_of
  bytes_fit = omega (arith, all-bits)

  bit_is : (i : ℕ) → i < 8 * bytes → bit_at (file_of m) i ≡ get_or (file_bits m) i 0
  unfolding file_of bytes
  bit_is i l = packed-bit (length_of m.dims (length m.cells)) (file_bits m) bits-right i l

  -- ---- the first 32 bits
  pub word-is : field (file_of m) 0 32 ≡ first_word m
  word-is = field_is (file_of m) 0 32 (first_word m) (unfold first_word in omega (arith, s.high, s.vertices, s.cells)) at
    where
      at : (j : ℕ) → j < 32 → bit_at (file_of m) (0 + j) ≡ get_or (bits_in 32 (first_word m)) j 0
      at j l = rw (zero-add j) (bit_is j (omega (arith, bytes_fit)) ∙ unfold file_bits in get_or-append (bits_in 32 (first_word m)) _ 0 j (rw length-bits_in l))

  record Head : Type 0 where
    dims : file_dim (file_of m) ≡ m.dims
    vertices : file_vertices (file_of m) ≡ m.vertices
    cells : file_cells (file_of m) ≡ length m.cells
    spare : file_spare (file_of m) ≡ 0

  vertices-below : file_vertices (file_of m) < 2 ^ 14
  unfolding file_vertices
  vertices-below = field_below (file_of m) 2 14

  cells-below : file_cells (file_of m) < 2 ^ 13
  unfolding file_cells
  cells-below = field_below (file_of m) 16 13

  spare-below : file_spare (file_of m) < 2 ^ 3
  unfolding file_spare
  spare-below = field_below (file_of m) 29 3

  head : Head
  head =
      let w : 2 ^ 30 * file_dim (file_of m) + 2 ^ 16 * file_vertices (file_of m) + 2 ^ 3 * file_cells (file_of m) + file_spare (file_of m) ≡ 2 ^ 30 * m.dims + 2 ^ 16 * m.vertices + 2 ^ 3 * length m.cells
      = sym (first-word (file_of m)) ∙ word-is ∙ unfold first_word in refl in
      let a = dim-below (file_of m) in
      let b = vertices-below in
      let c = cells-below in
      let d = spare-below in
      let x = s.vertices in
      let y = s.cells in
      record { dims = omega arith; vertices = omega arith; cells = omega arith; spare = omega arith }

  -- ---- the cells
  vertex-is : (q : ℕ) → q < length vertices → field (file_of m) (32 + 13 * q) 13 ≡ get_or vertices q 0
  vertex-is q l = field_is (file_of m) (32 + 13 * q) 13 (get_or vertices q 0) (vertex-below q l) at
    where
      at : (j : ℕ) → j < 13 → bit_at (file_of m) (32 + 13 * q + j) ≡ get_or (bits_in 13 (get_or vertices q 0)) j 0
      at j h =
          let e : 32 + 13 * q + j ≡ length (bits_in 32 (first_word m)) + (13 * q + j) = rw length-bits_in (omega arith) in
          bit_is (32 + 13 * q + j) (omega (arith, bytes_fit))
          ∙ rw e (unfold file_bits in get_or-append-add (bits_in 32 (first_word m)) (joined (map (bits_in 13) vertices)) (13 * q + j) 0)
          ∙ get_or-joined 13 (map (bits_in 13) vertices) row-bits q j (rw length-map l) h
          ∙ ap (λ (r : List ℕ). get_or r j 0) (get_d_map (bits_in 13) vertices q 0 [] l)

  place-below : (c k : ℕ) → c < length m.cells → k < m.dims + 1 → (m.dims + 1) * c + k < length vertices
  place-below c k l h = omega (arith, vertices-length, mul-le-mul_left (m.dims + 1) l, mul-suc (m.dims + 1) c)

  cell-is : (c : ℕ) → c < length m.cells → file_cell (file_of m) c ≡ get_or m.cells c []
  unfolding file_cell
  cell-is c l =
      let b = get_or m.cells c [] in
      let n = cell-size c l in
      rw head.dims
      (rows_agree (λ k. field (file_of m) (32 + 13 * ((m.dims + 1) * c + k)) 13) (λ k. get_or b k 0) (m.dims + 1) (λ k h. vertex-is ((m.dims + 1) * c + k) (place-below c k l h) ∙ vertex-at c k l h)
      ∙ ap (λ (x : ℕ). map (λ k. get_or b k 0) (up_to x)) (sym n) ∙ rows_all b 0)

  pub cells-back : cells_in_file (file_of m) ≡ m.cells
  unfolding cells_in_file
  cells-back = rw head.cells (rows_agree (file_cell (file_of m)) (λ c. get_or m.cells c []) (length m.cells) cell-is ∙ rows_all m.cells [])

  pub dims-back : file_dim (file_of m) ≡ m.dims
  dims-back = head.dims

  pub vertices-back : file_vertices (file_of m) ≡ m.vertices
  vertices-back = head.vertices

  -- ---- the file has no fault
  pub pad-clear : pad_set (file_of m) ≡ false
  unfolding pad_set bits_of
  pad-clear =
      rw (head.dims, head.cells)
      (any_none _ (up_to (8 * length (file_of m) - (32 + 13 * (m.dims + 1) * length m.cells))) (λ k i. clear k (up_to-is k _ i)))
    where
      clear : (k : ℕ) → k < 8 * length (file_of m) - (32 + 13 * (m.dims + 1) * length m.cells) → eqb (bit_at (file_of m) (32 + 13 * (m.dims + 1) * length m.cells + k)) 1 ≡ false
      clear k l =
          let n : length (file_of m) ≡ bytes = unfold file_of bytes in length-packed (length_of m.dims (length m.cells)) (file_bits m) in
          let z : get_or (file_bits m) (32 + 13 * (m.dims + 1) * length m.cells + k) 0 ≡ 0 = get_or-eq_default (file_bits m) 0 (omega (arith, bits-length, all-bits)) in
          rw (bit_is (32 + 13 * (m.dims + 1) * length m.cells + k) (omega arith), z)

  pub count-back : file_cells (file_of m) ≡ length m.cells
  count-back = head.cells

  pub length-file : length (file_of m) ≡ length_of m.dims (length m.cells)
  unfolding file_of
  length-file = length-packed (length_of m.dims (length m.cells)) (file_bits m)

  -- Load accepts it where no cell names a vertex twice and no two have the same vertices, in every book that has room
  pub stored-loads : any_of twice m.cells ≡ false → repeats (map sorted m.cells) ≡ false → (ws : List ℕ) → length (loaded (file_of m)) ≤ length ws → Loads (file_of m) ws
  stored-loads a u ws l = record {
    low = rw head.dims s.low;
    vertices = rw head.vertices s.vertices;
    cells = rw head.cells s.cells;
    spare = head.spare;
    size = rw (head.dims, head.cells) length-file;
    within = rw (head.vertices, cells-back) (any_none (out_of m.vertices) m.cells (λ c i. unfold out_of in any_none (λ v. leb m.vertices v) c (λ v j. lt-leb m.vertices v (s.below c i v j))));
    apart = rw cells-back a;
    unlike = rw cells-back u;
    ended = pad-clear;
    fits = l;
  }

  -- ---- the file put at the front of lent bytes
  head-dims : head_dim (first_word m) ≡ m.dims
  unfolding head_dim first_word
  head-dims = omega (arith, s.vertices, s.cells)

  head-count : head_cells (first_word m) ≡ length m.cells
  unfolding head_cells first_word
  head-count = omega (arith, s.vertices, s.cells)

  pub file-put : (bs : List ℕ) → length (file_of m) ≤ length bs → put_file (first_word m) (joined m.cells) bs ≡ file_of m ++ drop (length (file_of m)) bs
  unfolding put_file head_length file_bytes file_of file_bits
  file-put bs l =
      let n = length-packed (length_of m.dims (length m.cells)) (file_bits m) in
      let k : length_of m.dims (length m.cells) ≤ length bs = rw n at l in
      rw (head-dims, head-count, le-leb (length_of m.dims (length m.cells)) (length bs) k, n)
