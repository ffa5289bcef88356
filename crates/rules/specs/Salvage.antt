-- Document 02, "Save what can be saved of a day": the cells kept, the file written from them, the cells dropped, what was wrong besides; the call's refusals in their order, and its number.
use Rattle.std.specs.Prelude.{Bool, cond, not, List, [], ◌∷◌, ◌++◌, map, ℕ, zero, suc, ◌+◌, ◌-◌, ◌*◌, ◌^◌, ◌≤◌, ◌<◌, length, eqb, ltb}
use Rattle.rules.specs.Lists.{up_to, any_of, keep, same, joined, sorted}
use Rattle.rules.specs.File.{bit_at, file_dim, file_vertices, file_cells, file_spare, file_cell, bits_of, length_of, out_of, twice, file_bytes}
use Rattle.rules.specs.Calls.{Rule, rule, first_broken, at_front}

-- ==== the head
-- a file that refusals 1 to 4 let pass
pub record Headed (f : List ℕ) : Type 0 where
  pub long : 4 ≤ length f
  pub low : 0 < file_dim f
  pub vertices : file_vertices f ≤ 8192
  pub cells : file_cells f ≤ 4096

-- ==== the cells kept
-- cell c is not whole in the file
unfoldable pub cut_off : List ℕ → ℕ → Bool
cut_off f c = ltb (8 * length f) (bits_of (file_dim f) (c + 1))

-- some cell of these has the vertex set of c
unfoldable pub equal_to : List ℕ → List (List ℕ) → Bool
equal_to c cs = any_of (λ b. same (sorted b) (sorted c)) cs

-- the first fault of cell c, 0 for none: 6 not whole in the file, 7 a vertex out of range, 8 a vertex twice, 23 equal to one of the cells kept before it
unfoldable pub cell_fault : List ℕ → List (List ℕ) → ℕ → ℕ
cell_fault f before c =
    first_broken (
    rule (cut_off f c) 6
    ∷ rule (out_of (file_vertices f) (file_cell f c)) 7
    ∷ rule (twice (file_cell f c)) 8
    ∷ rule (equal_to (file_cell f c) before) 23
    ∷ []
    ) 0

-- of the first n cells those that are kept, in file order, each with its vertices in file order
unfoldable pub kept_of : List ℕ → ℕ → List (List ℕ)
kept_of f zero = []
kept_of f (suc n) = kept_of f n ++ cond (eqb (cell_fault f (kept_of f n) n) 0) (file_cell f n ∷ []) []

-- why cell c is dropped, 0 where it is kept
unfoldable pub why : List ℕ → ℕ → ℕ
why f c = cell_fault f (kept_of f c) c

-- all cells that are kept
unfoldable pub kept : List ℕ → List (List ℕ)
kept f = kept_of f (file_cells f)

-- ==== the cells dropped
-- of the first n cells those that are dropped, by their old numbers, ascending
unfoldable pub dropped_of : List ℕ → ℕ → List ℕ
dropped_of f n = keep (λ c. not (eqb (why f c) 0)) (up_to n)

-- two numbers for each of them: its old number, and why
unfoldable pub pairs_of : List ℕ → ℕ → List ℕ
pairs_of f n = joined (map (λ c. c ∷ why f c ∷ []) (dropped_of f n))

-- the two numbers of every cell that is dropped
unfoldable pub dropped_pairs : List ℕ → List ℕ
dropped_pairs f = pairs_of f (file_cells f)

-- the number of cells that are dropped
unfoldable pub dropped_count : List ℕ → ℕ
dropped_count f = length (dropped_of f (file_cells f))

-- ==== the file written
-- the first 32 bits: D and N_0 as they are, the corrected cell count, spare bits zero
unfoldable pub saved_head : List ℕ → ℕ
saved_head f = 2 ^ 30 * file_dim f + 2 ^ 16 * file_vertices f + 2 ^ 3 * length (kept f)

-- the file of the cells kept
unfoldable pub saved : List ℕ → List ℕ
saved f = file_bytes (file_dim f) (length (kept f)) (saved_head f) (joined (kept f))

-- its length
unfoldable pub saved_length : List ℕ → ℕ
saved_length f = length (saved f)

-- ==== what was wrong besides
-- spare bits were set
unfoldable pub spare_was : List ℕ → Bool
spare_was f = ltb 0 (file_spare f)

-- pad bits were set: those up to the length that the header asks; a bit that is not there counts as 0
unfoldable pub pad_was : List ℕ → Bool
pad_was f =
    any_of (λ k. eqb (bit_at f (bits_of (file_dim f) (file_cells f) + k)) 1)
    (up_to (8 * length_of (file_dim f) (file_cells f) - bits_of (file_dim f) (file_cells f)))

-- the length was not the one that the header asks
unfoldable pub length_was : List ℕ → Bool
length_was f = not (eqb (length f) (length_of (file_dim f) (file_cells f)))

-- ==== the call
-- 1 to 4 as Load, then 18 for too few lent bytes, then 21 for a lent list shorter than 2·N_D, of the header as it is
unfoldable pub salvage_rules : List ℕ → List ℕ → List ℕ → List (Rule ℕ)
salvage_rules f bytes list =
    rule (ltb (length f) 4) 1
    ∷ rule (eqb (file_dim f) 0) 2
    ∷ rule (ltb 8192 (file_vertices f)) 3
    ∷ rule (ltb 4096 (file_cells f)) 4
    ∷ rule (ltb (length bytes) (saved_length f)) 18
    ∷ rule (ltb (length list) (2 * file_cells f)) 21
    ∷ []

-- the number, 0 where accepted
unfoldable pub salvage_number : List ℕ → List ℕ → List ℕ → ℕ
salvage_number f bytes list = first_broken (salvage_rules f bytes list) 0

-- what it gives where accepted: the length written, the number of cells dropped, and 1 or 0 for each of the three things that may have been wrong besides; nothing on a refusal
unfoldable pub salvage_given : List ℕ → List ℕ → List ℕ → List ℕ
salvage_given f bytes list =
    cond (eqb (salvage_number f bytes list) 0)
    (saved_length f ∷ dropped_count f ∷ cond (spare_was f) 1 0 ∷ cond (pad_was f) 1 0 ∷ cond (length_was f) 1 0 ∷ [])
    []

-- the bytes after the call: the file at their front, and later bytes as they were
unfoldable pub salvage_bytes : List ℕ → List ℕ → List ℕ → List ℕ
salvage_bytes f bytes list = at_front (salvage_number f bytes list) (saved f) bytes

-- the list after the call: the cells dropped at its front, and the rest as it was
unfoldable pub salvage_list : List ℕ → List ℕ → List ℕ → List ℕ
salvage_list f bytes list = at_front (salvage_number f bytes list) (dropped_pairs f) list
