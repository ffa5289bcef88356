-- The number of a file's first fault, test by test in their order.
use mathlib.Core.Path.{◌≡◌, ◌∙◌}
use mathlib.Core.Bool.{Bool, true, false}
use mathlib.Core.List.{List, map}
use Prim.Native.Nat.{ℕ, ◌≤◌, ◌<◌}
use lib.ListN.{length, length-map}
use lib.Dec.{ltb}
use borrow.Author.Tests.{lt-ltb, le-ltb, eq-eqb, ne_eqb}
use Rattle.rules.specs.Lists.{any_of, first_at, repeats, first_repeated, sorted}
use Rattle.rules.specs.File.{file_dim, file_vertices, file_cells, file_spare, file_cell, length_of, cells_in_file, out_of, twice, pad_set}
use Rattle.rules.specs.Calls.{first_broken, file_rules, file_number, fault_cell}
use Rattle.rules.proofs.Numbered.{length-rows}
use Rattle.rules.proofs.Searched.{any-first}
use Rattle.rules.proofs.Unlike.{repeats-first}

pub all-cells : (f : List ℕ) → length (cells_in_file f) ≡ file_cells f
unfolding cells_in_file
all-cells f = length-rows (file_cell f) (file_cells f)

module _ (f : List ℕ) where
  -- two cells are equal exactly when the lowest that equals an earlier one is a cell
  pub repeats-file : repeats (map sorted (cells_in_file f)) ≡ ltb (first_repeated (map sorted (cells_in_file f))) (file_cells f)
  repeats-file = repeats-first (map sorted (cells_in_file f)) ∙ rw (length-map (cells_in_file f) sorted, all-cells f)

  pub short : length f < 4 → file_number f ≡ 1
  unfolding file_number file_rules first_broken
  short h = rw (lt-ltb (length f) 4 h)

  module _ (a : 4 ≤ length f) where
    pub no-dimension : file_dim f ≡ 0 → file_number f ≡ 2
    unfolding file_number file_rules first_broken
    no-dimension h = rw (le-ltb (length f) 4 a, eq-eqb (file_dim f) 0 h)

    module _ (b : file_dim f ≡ 0 → ⊥) where
      pub many-vertices : 8192 < file_vertices f → file_number f ≡ 3
      unfolding file_number file_rules first_broken
      many-vertices h = rw (le-ltb (length f) 4 a, ne_eqb (file_dim f) 0 b, lt-ltb 8192 (file_vertices f) h)

      module _ (c : file_vertices f ≤ 8192) where
        pub many-cells : 4096 < file_cells f → file_number f ≡ 4
        unfolding file_number file_rules first_broken
        many-cells h = rw (le-ltb (length f) 4 a, ne_eqb (file_dim f) 0 b, le-ltb 8192 (file_vertices f) c, lt-ltb 4096 (file_cells f) h)

        module _ (d : file_cells f ≤ 4096) where
          pub spare-bits : 0 < file_spare f → file_number f ≡ 5
          unfolding file_number file_rules first_broken
          spare-bits h =
              rw (le-ltb (length f) 4 a, ne_eqb (file_dim f) 0 b, le-ltb 8192 (file_vertices f) c, le-ltb 4096 (file_cells f) d, lt-ltb 0 (file_spare f) h)

          module _ (e : file_spare f ≤ 0) where
            pub wrong-length : (length f ≡ length_of (file_dim f) (file_cells f) → ⊥) → file_number f ≡ 6
            unfolding file_number file_rules first_broken
            wrong-length h =
                rw (le-ltb (length f) 4 a, ne_eqb (file_dim f) 0 b, le-ltb 8192 (file_vertices f) c, le-ltb 4096 (file_cells f) d, le-ltb 0 (file_spare f) e, ne_eqb (length f) (length_of (file_dim f) (file_cells f)) h)

-- the tests 1 to 6 are passed
pub record Passed (f : List ℕ) : Type 0 where
  pub long : 4 ≤ length f
  pub some-dimension : file_dim f ≡ 0 → ⊥
  pub few-vertices : file_vertices f ≤ 8192
  pub few-cells : file_cells f ≤ 4096
  pub no-spare : file_spare f ≤ 0
  pub right-length : length f ≡ length_of (file_dim f) (file_cells f)

-- behind them, the tests of the cells and of the bits after the last vertex
module _ (f : List ℕ) (p : Passed f) where
  found : (t : List ℕ → Bool) → first_at t (cells_in_file f) < file_cells f → any_of t (cells_in_file f) ≡ true
  found t h = any-first t (cells_in_file f) ∙ rw (all-cells f) (lt-ltb _ _ h)

  none : (t : List ℕ → Bool) → file_cells f ≤ first_at t (cells_in_file f) → any_of t (cells_in_file f) ≡ false
  none t h = any-first t (cells_in_file f) ∙ rw (all-cells f) (le-ltb _ _ h)

  pub vertex-out : first_at (out_of (file_vertices f)) (cells_in_file f) < file_cells f → file_number f ≡ 7
  unfolding file_number file_rules first_broken
  vertex-out h =
      rw (le-ltb (length f) 4 p.long, ne_eqb (file_dim f) 0 p.some-dimension, le-ltb 8192 (file_vertices f) p.few-vertices, le-ltb 4096 (file_cells f) p.few-cells, le-ltb 0 (file_spare f) p.no-spare, eq-eqb (length f) (length_of (file_dim f) (file_cells f)) p.right-length, found (out_of (file_vertices f)) h)

  module _ (i : file_cells f ≤ first_at (out_of (file_vertices f)) (cells_in_file f)) where
    pub vertex-twice : first_at twice (cells_in_file f) < file_cells f → file_number f ≡ 8
    unfolding file_number file_rules first_broken
    vertex-twice h =
        rw (le-ltb (length f) 4 p.long, ne_eqb (file_dim f) 0 p.some-dimension, le-ltb 8192 (file_vertices f) p.few-vertices, le-ltb 4096 (file_cells f) p.few-cells, le-ltb 0 (file_spare f) p.no-spare, eq-eqb (length f) (length_of (file_dim f) (file_cells f)) p.right-length, none (out_of (file_vertices f)) i, found twice h)

    module _ (j : file_cells f ≤ first_at twice (cells_in_file f)) where
      pub cell-repeated : first_repeated (map sorted (cells_in_file f)) < file_cells f → file_number f ≡ 23
      unfolding file_number file_rules first_broken
      cell-repeated h =
          rw (le-ltb (length f) 4 p.long, ne_eqb (file_dim f) 0 p.some-dimension, le-ltb 8192 (file_vertices f) p.few-vertices, le-ltb 4096 (file_cells f) p.few-cells, le-ltb 0 (file_spare f) p.no-spare, eq-eqb (length f) (length_of (file_dim f) (file_cells f)) p.right-length, none (out_of (file_vertices f)) i, none twice j, repeats-file, lt-ltb _ _ h)

      module _ (k : file_cells f ≤ first_repeated (map sorted (cells_in_file f))) where
        pub bits-after : pad_set f ≡ true → file_number f ≡ 9
        unfolding file_number file_rules first_broken
        bits-after h =
            rw (le-ltb (length f) 4 p.long, ne_eqb (file_dim f) 0 p.some-dimension, le-ltb 8192 (file_vertices f) p.few-vertices, le-ltb 4096 (file_cells f) p.few-cells, le-ltb 0 (file_spare f) p.no-spare, eq-eqb (length f) (length_of (file_dim f) (file_cells f)) p.right-length, none (out_of (file_vertices f)) i, none twice j, repeats-file, le-ltb (first_repeated (map sorted (cells_in_file f))) (file_cells f) k, h)

        pub no-fault : pad_set f ≡ false → file_number f ≡ 0
        unfolding file_number file_rules first_broken
        no-fault h =
            rw (le-ltb (length f) 4 p.long, ne_eqb (file_dim f) 0 p.some-dimension, le-ltb 8192 (file_vertices f) p.few-vertices, le-ltb 4096 (file_cells f) p.few-cells, le-ltb 0 (file_spare f) p.no-spare, eq-eqb (length f) (length_of (file_dim f) (file_cells f)) p.right-length, none (out_of (file_vertices f)) i, none twice j, repeats-file, le-ltb (first_repeated (map sorted (cells_in_file f))) (file_cells f) k, h)

-- the cell that comes with 7, 8 and 23
pub cell_out : (f : List ℕ) → file_number f ≡ 7 → fault_cell f ≡ first_at (out_of (file_vertices f)) (cells_in_file f)
unfolding fault_cell
cell_out f h = rw h

pub cell-twice : (f : List ℕ) → file_number f ≡ 8 → fault_cell f ≡ first_at twice (cells_in_file f)
unfolding fault_cell
cell-twice f h = rw h

pub cell-repeats : (f : List ℕ) → file_number f ≡ 23 → fault_cell f ≡ first_repeated (map sorted (cells_in_file f))
unfolding fault_cell
cell-repeats f h = rw h
