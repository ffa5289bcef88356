-- The faults behind the sixth, from what was found among the cells that were put down.
use mathlib.Core.Path.{◌≡◌}
use mathlib.Core.Bool.{true, false}
use mathlib.Core.List.{List, map}
use Prim.Native.Nat.{ℕ, ◌≤◌}
use Rattle.std.specs.Prelude.{Some, None, Ok, Err}
use Rattle.rules.specs.Lists.{first_at, sorted, first_repeated}
use Rattle.rules.specs.File.{field, file_vertices, file_cells, cells_in_file, out_of, twice, pad_set, head_vertices, head_cells}
use Rattle.rules.specs.Calls.{file_number, fault_cell}
use Rattle.rules.proofs.FirstFault.{Passed, vertex-out, vertex-twice, cell-repeated, bits-after, no-fault, cell_out, cell-twice, cell-repeats}
use Rattle.repeats.specs.Rows.{rows_in}
use Rattle.kinds.specs.declared.Cell.{Cell}
use Rattle.kinds.specs.declared.refusals.Refusal.TheVariants.{VertexOut, VertexTwice, CellTwice, BitsAfter}
use Rattle.dayfile.specs.Faults.{first_faults, fault_of, head_number}
use Rattle.kinds.specs.Lowest.{lowest_below}
use Rattle.dayfile.specs.Numbers.{cell_numbered}
use Rattle.dayfile.specs.Words.{Put, cells_in}
use Rattle.dayfile.proofs.FourWords.{out-put, twice-put, again-put}
use Rattle.dayfile.proofs.HeadFaults.{passed}
use Rattle.kinds.proofs.Lowest.{found-below, none-below}
use Rattle.dayfile.proofs.Says.{Says, says}

module _ (f was ws : List ℕ) (h : ℕ) (e : h ≡ field f 0 32) (z : head_number f ≡ 0) (p : Put f was ws (head_cells h)) where
  sound : Passed f
  sound = passed f z

  said : Says f h
  said = says f h e

  pub laid : Put f was ws (file_cells f)
  laid = rw said.cells at p

  -- a vertex out of range
  pub seventh : (c : Cell) → Some c ≡ lowest_below cell_numbered (head_cells h) (first_at (out_of (head_vertices h)) (cells_in h ws)) → Err (VertexOut c) ≡ fault_of (file_number f) (fault_cell f)
  unfolding first_faults fault_of
  seventh c r =
      let (l, q) = found-below cell_numbered _ _ c r in
      let o = out-put f was ws h e p in
      let n = vertex-out f sound (rw (said.cells, o) at l) in
      rw (n, cell_out f n, q, o)

  not_seventh : None ≡ lowest_below cell_numbered (head_cells h) (first_at (out_of (head_vertices h)) (cells_in h ws)) → file_cells f ≤ first_at (out_of (file_vertices f)) (cells_in_file f)
  not_seventh r = rw (said.cells, out-put f was ws h e p) at (none-below cell_numbered _ _ r)

  module _ (out : None ≡ lowest_below cell_numbered (head_cells h) (first_at (out_of (head_vertices h)) (cells_in h ws))) where
    -- a cell with a vertex twice
    pub eighth : (c : Cell) → Some c ≡ lowest_below cell_numbered (head_cells h) (first_at twice (cells_in h ws)) → Err (VertexTwice c) ≡ fault_of (file_number f) (fault_cell f)
    unfolding first_faults fault_of
    eighth c r =
        let (l, q) = found-below cell_numbered _ _ c r in
        let o = twice-put f was ws h e p in
        let n = vertex-twice f sound (not_seventh out) (rw (said.cells, o) at l) in
        rw (n, cell-twice f n, q, o)

    not_eighth : None ≡ lowest_below cell_numbered (head_cells h) (first_at twice (cells_in h ws)) → file_cells f ≤ first_at twice (cells_in_file f)
    not_eighth r = rw (said.cells, twice-put f was ws h e p) at (none-below cell_numbered _ _ r)

    module _ (two : None ≡ lowest_below cell_numbered (head_cells h) (first_at twice (cells_in h ws))) where
      -- a cell that repeats an earlier one
      pub twenty-third : (c : Cell) → Some c ≡ lowest_below cell_numbered (head_cells h) (first_repeated (rows_in 4 ws (head_cells h))) → Err (CellTwice c) ≡ fault_of (file_number f) (fault_cell f)
      unfolding first_faults fault_of
      twenty-third c r =
          let (l, q) = found-below cell_numbered _ _ c r in
          let o = again-put f was ws h e p in
          let n = cell-repeated f sound (not_seventh out) (not_eighth two) (rw (o, said.cells) at l) in
          rw (n, cell-repeats f n, q, o)

      not-twenty-third : None ≡ lowest_below cell_numbered (head_cells h) (first_repeated (rows_in 4 ws (head_cells h))) → file_cells f ≤ first_repeated (map sorted (cells_in_file f))
      not-twenty-third r = rw (again-put f was ws h e p, said.cells) at (none-below cell_numbered _ _ r)

      module _ (again : None ≡ lowest_below cell_numbered (head_cells h) (first_repeated (rows_in 4 ws (head_cells h)))) where
        -- a bit set after the last vertex, or none
        pub ninth : pad_set f ≡ true → Err BitsAfter ≡ fault_of (file_number f) (fault_cell f)
        unfolding first_faults fault_of
        ninth b = rw (bits-after f sound (not_seventh out) (not_eighth two) (not-twenty-third again) b)

        pub faultless : pad_set f ≡ false → Ok (record {}) ≡ fault_of (file_number f) (fault_cell f)
        unfolding first_faults fault_of
        faultless b = rw (no-fault f sound (not_seventh out) (not_eighth two) (not-twenty-third again) b)
