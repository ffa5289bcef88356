-- Document 02, "Save what can be saved of a day": what is promised of the file that is written, of a file that Load accepts, and of every file.
use Rattle.std.specs.Prelude.{◌≡◌, true, false, List, [], ◌∷◌, ◌++◌, map, ℕ, ◌+◌, ◌*◌, ◌^◌, ◌≤◌, ◌<◌, length, get_or, drop, eqb}
use Rattle.rules.specs.Lists.{up_to, keep, has}
use Rattle.rules.specs.File.{file_dim, file_vertices, file_cells, file_cell, cells_in_file}
use Rattle.rules.specs.Calls.{load_number}
use Rattle.rules.specs.Salvage.{Headed, saved_length, why, kept, dropped_pairs, dropped_count, saved, spare_was, pad_was, length_was, salvage_number, salvage_given, salvage_bytes, salvage_list}

-- ==== the file that is written
-- it has the same D and N_0, and the cells kept, each with its vertices in file order
abbrev pub SavedCells : Type 0
SavedCells = (f bytes list : List ℕ) → salvage_number f bytes list ≡ 0
    → (file_dim (saved f) ≡ file_dim f) × (file_vertices (saved f) ≡ file_vertices f) × (cells_in_file (saved f) ≡ kept f)

-- Load accepts it in every book that has room for it
abbrev pub SavedLoads : Type 0
SavedLoads = (f bytes list us : List ℕ) → salvage_number f bytes list ≡ 0 → 6 + length (kept f) + length (kept f) * (file_dim f + 1) ≤ length us
    → load_number (saved f) us ≡ 0

-- salvaged again it stays as it is, nothing more is dropped, and nothing is found wrong with it
abbrev pub SavedTwice : Type 0
SavedTwice = (f bytes list : List ℕ) → salvage_number f bytes list ≡ 0
    → (saved (saved f) ≡ saved f)
    × (dropped_pairs (saved f) ≡ [])
    × (spare_was (saved f) ≡ false)
    × (pad_was (saved f) ≡ false)
    × (length_was (saved f) ≡ false)

-- so the call accepts it again where as many bytes and two places a cell kept are lent, says that nothing was wrong, writes it and leaves the list
abbrev pub SavedTwiceGiven : Type 0
SavedTwiceGiven = (f bytes list bytes2 list2 : List ℕ) → salvage_number f bytes list ≡ 0 → saved_length f ≤ length bytes2 → 2 * length (kept f) ≤ length list2
    → (salvage_number (saved f) bytes2 list2 ≡ 0)
    × (salvage_given (saved f) bytes2 list2 ≡ saved_length f ∷ 0 ∷ 0 ∷ 0 ∷ 0 ∷ [])
    × (salvage_bytes (saved f) bytes2 list2 ≡ saved f ++ drop (saved_length f) bytes2)
    × (salvage_list (saved f) bytes2 list2 ≡ list2)

-- ==== a file that Load accepts
-- it comes back unchanged with an empty list, and nothing is found wrong with it
abbrev pub LoadedSame : Type 0
LoadedSame = (f us : List ℕ) → ((i : ℕ) → get_or f i 0 < 2 ^ 8) → load_number f us ≡ 0
    → (saved f ≡ f) × (dropped_pairs f ≡ []) × (spare_was f ≡ false) × (pad_was f ≡ false) × (length_was f ≡ false)

-- so the call accepts it where as many bytes and two places a cell are lent, says so, writes it and leaves the list
abbrev pub LoadedGiven : Type 0
LoadedGiven = (f us bytes list : List ℕ) → ((i : ℕ) → get_or f i 0 < 2 ^ 8) → load_number f us ≡ 0 → length f ≤ length bytes → 2 * file_cells f ≤ length list
    → (salvage_number f bytes list ≡ 0)
    × (salvage_given f bytes list ≡ length f ∷ 0 ∷ 0 ∷ 0 ∷ 0 ∷ [])
    × (salvage_bytes f bytes list ≡ f ++ drop (length f) bytes)
    × (salvage_list f bytes list ≡ list)

-- ==== every file
-- the cells kept are those without a fault, in file order
abbrev pub KeptNumbers : Type 0
KeptNumbers = (f : List ℕ) → kept f ≡ map (file_cell f) (keep (λ c. eqb (why f c) 0) (up_to (file_cells f)))

-- a cell is kept, or it is dropped for one of four reasons
abbrev pub Reasons : Type 0
Reasons = (f : List ℕ) (c : ℕ) → has (why f c) (0 ∷ 6 ∷ 7 ∷ 8 ∷ 23 ∷ []) ≡ true

-- each cell is kept or dropped, and two numbers come for each one dropped
abbrev pub AllAccounted : Type 0
AllAccounted = (f : List ℕ) → (length (kept f) + dropped_count f ≡ file_cells f) × (length (dropped_pairs f) ≡ 2 * dropped_count f)

-- no lent list changes its length
abbrev pub LengthsKept : Type 0
LengthsKept = (f bytes list : List ℕ) → (length (salvage_bytes f bytes list) ≡ length bytes) × (length (salvage_list f bytes list) ≡ length list)

-- with room for the longest file and for the most cells the number is one of 0 to 4
abbrev pub RoomForAll : Type 0
RoomForAll = (f bytes list : List ℕ) → 26628 ≤ length bytes → 8192 ≤ length list → salvage_number f bytes list ≤ 4

-- what is saved is not longer than what came
abbrev pub SavedWithin : Type 0
SavedWithin = (f : List ℕ) → Headed f → saved_length f ≤ length f
