-- Salvage by hand: T cut short, with faults in its cells and with wrong bits besides; intervals, tetrahedra, no cell; and refusals.
use mathlib.Core.Path.{◌≡◌, refl}
use mathlib.Core.Bool.{true}
use mathlib.Core.List.{List, [], ◌∷◌, ◌++◌}
use Prim.Native.Nat.{ℕ}
use lib.ListN.{take, replicate}
use Rattle.rules.specs.Lists.{all_of}
use Rattle.rules.specs.Salvage.{salvage_number, salvage_given, salvage_bytes, salvage_list}
use Rattle.rules.proofs.Opened.{opened}
use Rattle.rules.proofs.Examples.{Example, example, holds, sheet, sheet_with, empty}

-- the first cell of T alone, 0 1 3
unfoldable first : List ℕ
first = 0x80 ∷ 0x04 ∷ 0x00 ∷ 0x08 ∷ 0x00 ∷ 0x00 ∷ 0x00 ∷ 0x40 ∷ 0x06 ∷ []

-- T with the vertices of its cells descending: 3 1 0, 3 2 1
unfoldable falling : List ℕ
falling = 0x80 ∷ 0x04 ∷ 0x00 ∷ 0x10 ∷ 0x00 ∷ 0x18 ∷ 0x00 ∷ 0x40 ∷ 0x00 ∷ 0x00 ∷ 0x30 ∷ 0x01 ∷ 0x00 ∷ 0x04 ∷ []

-- 0 1 3 and 3 0 1, with another N_0
unfoldable equals : ℕ → List ℕ
equals n = 0x80 ∷ n ∷ 0x00 ∷ 0x10 ∷ 0x00 ∷ 0x00 ∷ 0x00 ∷ 0x40 ∷ 0x06 ∷ 0x00 ∷ 0x30 ∷ 0x00 ∷ 0x00 ∷ 0x04 ∷ []

-- 1 1 3 and 1 3 1
unfoldable equal_twice : List ℕ
equal_twice = 0x80 ∷ 0x04 ∷ 0x00 ∷ 0x10 ∷ 0x00 ∷ 0x08 ∷ 0x00 ∷ 0x40 ∷ 0x06 ∷ 0x00 ∷ 0x10 ∷ 0x01 ∷ 0x80 ∷ 0x04 ∷ []

-- N_0 = 3: 3 3 1 and 2 2 1
unfoldable out_and_twice : List ℕ
out_and_twice = 0x80 ∷ 0x03 ∷ 0x00 ∷ 0x10 ∷ 0x00 ∷ 0x18 ∷ 0x00 ∷ 0xC0 ∷ 0x02 ∷ 0x00 ∷ 0x20 ∷ 0x01 ∷ 0x00 ∷ 0x04 ∷ []

-- N_0 = 3: 0 1 2 and 3 2 1, the last byte gone
unfoldable cut_and_out : List ℕ
cut_and_out = 0x80 ∷ 0x03 ∷ 0x00 ∷ 0x10 ∷ 0x00 ∷ 0x00 ∷ 0x00 ∷ 0x40 ∷ 0x04 ∷ 0x00 ∷ 0x30 ∷ 0x01 ∷ 0x00 ∷ []

-- 0 1 2 and 1 1 3, the last byte gone
unfoldable cut_and_twice : List ℕ
cut_and_twice = 0x80 ∷ 0x04 ∷ 0x00 ∷ 0x10 ∷ 0x00 ∷ 0x00 ∷ 0x00 ∷ 0x40 ∷ 0x04 ∷ 0x00 ∷ 0x10 ∷ 0x00 ∷ 0x80 ∷ []

-- 0 1 3 and 3 1 0, the last byte gone: only zero bits are missing
unfoldable cut_and_equal : List ℕ
cut_and_equal = 0x80 ∷ 0x04 ∷ 0x00 ∷ 0x10 ∷ 0x00 ∷ 0x00 ∷ 0x00 ∷ 0x40 ∷ 0x06 ∷ 0x00 ∷ 0x30 ∷ 0x00 ∷ 0x80 ∷ []

-- 0 3 1, 0 1 4, 2 1 2, 1 0 3 and 3 1 2, with spare and pad bits set
unfoldable damaged : List ℕ
damaged = 0x80 ∷ 0x04 ∷ 0x00 ∷ 0x2D ∷ 0x00 ∷ 0x00 ∷ 0x00 ∷ 0xC0 ∷ 0x02 ∷ 0x00 ∷ 0x00 ∷ 0x00 ∷ 0x80 ∷ 0x10 ∷ 0x00 ∷ 0x40 ∷ 0x01 ∷ 0x00 ∷ 0x10 ∷ 0x00 ∷ 0x40 ∷ 0x00 ∷ 0x00 ∷ 0x30 ∷ 0x01 ∷ 0x80 ∷ 0x04 ∷ 0x00 ∷ 0x41 ∷ []

-- the number, what is given, and the lent bytes and the lent list after the call
unfoldable outcome : ℕ → List ℕ → List ℕ → List ℕ → List ℕ
outcome n given bytes list = n ∷ (given ++ (bytes ++ list))

-- of a file, with so many lent bytes of 9 and lent places of 99
unfoldable tried : List ℕ → ℕ → ℕ → List ℕ
tried f b p =
    let bytes : List ℕ = replicate b 9 in
    let list : List ℕ = replicate p 99 in
    outcome (salvage_number f bytes list) (salvage_given f bytes list) (salvage_bytes f bytes list) (salvage_list f bytes list)

pub salvage-examples : List Example
salvage-examples =
    -- T comes back, and nothing is listed; the byte behind it and the list stay
    example (tried sheet 15 5) (outcome 0 (14 ∷ 0 ∷ 0 ∷ 0 ∷ 0 ∷ []) (sheet ++ (9 ∷ [])) (99 ∷ 99 ∷ 99 ∷ 99 ∷ 99 ∷ []))
    -- vertices stay in file order
    ∷ example (tried falling 14 4) (outcome 0 (14 ∷ 0 ∷ 0 ∷ 0 ∷ 0 ∷ []) falling (99 ∷ 99 ∷ 99 ∷ 99 ∷ []))
    -- a byte short, a place short, and both
    ∷ example (tried sheet 13 4) (outcome 18 [] (replicate 13 9) (replicate 4 99))
    ∷ example (tried sheet 14 3) (outcome 21 [] (replicate 14 9) (replicate 3 99))
    ∷ example (tried sheet 13 3) (outcome 18 [] (replicate 13 9) (replicate 3 99))
    -- T without its last byte: cell 1 is not whole
    ∷ example (tried (take 13 sheet) 10 5) (outcome 0 (9 ∷ 1 ∷ 0 ∷ 0 ∷ 1 ∷ []) (first ++ (9 ∷ [])) (1 ∷ 6 ∷ 99 ∷ 99 ∷ 99 ∷ []))
    -- the room asked is that of the file written, and of every cell that the head has
    ∷ example (tried (take 13 sheet) 8 4 ++ tried (take 13 sheet) 9 3) (outcome 18 [] (replicate 8 9) (replicate 4 99) ++ outcome 21 [] (replicate 9 9) (replicate 3 99))
    -- T up to the byte that cell 0 ends in; a byte less, so that no cell is whole; the head alone
    ∷ example (tried (take 9 sheet) 9 4) (outcome 0 (9 ∷ 1 ∷ 0 ∷ 0 ∷ 1 ∷ []) first (1 ∷ 6 ∷ 99 ∷ 99 ∷ []))
    ∷ example (tried (take 8 sheet) 4 4) (outcome 0 (4 ∷ 2 ∷ 0 ∷ 0 ∷ 1 ∷ []) (0x80 ∷ 0x04 ∷ 0x00 ∷ 0x00 ∷ []) (0 ∷ 6 ∷ 1 ∷ 6 ∷ []))
    ∷ example (tried (take 4 sheet) 4 4) (outcome 0 (4 ∷ 2 ∷ 0 ∷ 0 ∷ 1 ∷ []) (0x80 ∷ 0x04 ∷ 0x00 ∷ 0x00 ∷ []) (0 ∷ 6 ∷ 1 ∷ 6 ∷ []))
    -- spare bits, each pad bit, and a surplus byte, whose bits are no pad bits
    ∷ example (tried (0x80 ∷ 0x04 ∷ 0x00 ∷ 0x11 ∷ 0x00 ∷ 0x00 ∷ 0x00 ∷ 0x40 ∷ 0x06 ∷ 0x00 ∷ 0x10 ∷ 0x01 ∷ 0x00 ∷ 0x0C ∷ []) 14 4) (outcome 0 (14 ∷ 0 ∷ 1 ∷ 0 ∷ 0 ∷ []) sheet (99 ∷ 99 ∷ 99 ∷ 99 ∷ []))
    ∷ example (tried (sheet_with 4 0x0D) 14 4) (outcome 0 (14 ∷ 0 ∷ 0 ∷ 1 ∷ 0 ∷ []) sheet (99 ∷ 99 ∷ 99 ∷ 99 ∷ []))
    ∷ example (tried (sheet_with 4 0x0E) 14 4) (outcome 0 (14 ∷ 0 ∷ 0 ∷ 1 ∷ 0 ∷ []) sheet (99 ∷ 99 ∷ 99 ∷ 99 ∷ []))
    ∷ example (tried (sheet ++ (0xFF ∷ [])) 14 4) (outcome 0 (14 ∷ 0 ∷ 0 ∷ 0 ∷ 1 ∷ []) sheet (99 ∷ 99 ∷ 99 ∷ 99 ∷ []))
    -- all three, and no cell
    ∷ example (tried (0x80 ∷ 0x04 ∷ 0x00 ∷ 0x17 ∷ 0x00 ∷ 0x00 ∷ 0x00 ∷ 0x40 ∷ 0x06 ∷ 0x00 ∷ 0x10 ∷ 0x01 ∷ 0x00 ∷ 0x0F ∷ 0x00 ∷ []) 14 4) (outcome 0 (14 ∷ 0 ∷ 1 ∷ 1 ∷ 1 ∷ []) sheet (99 ∷ 99 ∷ 99 ∷ 99 ∷ []))
    ∷ example (tried (0x80 ∷ 0x04 ∷ 0x00 ∷ 0x07 ∷ 0xFF ∷ []) 5 1) (outcome 0 (4 ∷ 0 ∷ 1 ∷ 0 ∷ 1 ∷ []) (0x80 ∷ 0x04 ∷ 0x00 ∷ 0x00 ∷ 9 ∷ []) (99 ∷ []))
    ∷ example (tried empty 4 0) (outcome 0 (4 ∷ 0 ∷ 0 ∷ 0 ∷ 0 ∷ []) empty [])
    -- N_0 = 3: both cells of T are out of range
    ∷ example (tried (sheet_with 3 0x0C) 4 4) (outcome 0 (4 ∷ 2 ∷ 0 ∷ 0 ∷ 0 ∷ []) (0x80 ∷ 0x03 ∷ 0x00 ∷ 0x00 ∷ []) (0 ∷ 7 ∷ 1 ∷ 7 ∷ []))
    -- an equal cell, its vertices in another order
    ∷ example (tried (equals 4) 9 4) (outcome 0 (9 ∷ 1 ∷ 0 ∷ 0 ∷ 0 ∷ []) first (1 ∷ 23 ∷ 99 ∷ 99 ∷ []))
    -- 0 1 3, 3 1 0, 1 3 0 and 1 2 3: two cells equal the first, and T is left
    ∷ example (tried (0x80 ∷ 0x04 ∷ 0x00 ∷ 0x20 ∷ 0x00 ∷ 0x00 ∷ 0x00 ∷ 0x40 ∷ 0x06 ∷ 0x00 ∷ 0x30 ∷ 0x00 ∷ 0x80 ∷ 0x00 ∷ 0x00 ∷ 0x20 ∷ 0x03 ∷ 0x00 ∷ 0x00 ∷ 0x00 ∷ 0x40 ∷ 0x04 ∷ 0x00 ∷ 0x30 ∷ []) 14 8) (outcome 0 (14 ∷ 2 ∷ 0 ∷ 0 ∷ 0 ∷ []) sheet (1 ∷ 23 ∷ 2 ∷ 23 ∷ 99 ∷ 99 ∷ 99 ∷ 99 ∷ []))
    -- equal to a cell that is dropped: dropped for the same reason
    ∷ example (tried (equals 3) 4 4) (outcome 0 (4 ∷ 2 ∷ 0 ∷ 0 ∷ 0 ∷ []) (0x80 ∷ 0x03 ∷ 0x00 ∷ 0x00 ∷ []) (0 ∷ 7 ∷ 1 ∷ 7 ∷ []))
    ∷ example (tried equal_twice 4 4) (outcome 0 (4 ∷ 2 ∷ 0 ∷ 0 ∷ 0 ∷ []) (0x80 ∷ 0x04 ∷ 0x00 ∷ 0x00 ∷ []) (0 ∷ 8 ∷ 1 ∷ 8 ∷ []))
    -- two faults, the first is told: 7 before 8; 6 before 7, 8 and 23
    ∷ example (tried out_and_twice 4 4) (outcome 0 (4 ∷ 2 ∷ 0 ∷ 0 ∷ 0 ∷ []) (0x80 ∷ 0x03 ∷ 0x00 ∷ 0x00 ∷ []) (0 ∷ 7 ∷ 1 ∷ 8 ∷ []))
    ∷ example (tried cut_and_out 9 4) (outcome 0 (9 ∷ 1 ∷ 0 ∷ 0 ∷ 1 ∷ []) (0x80 ∷ 0x03 ∷ 0x00 ∷ 0x08 ∷ 0x00 ∷ 0x00 ∷ 0x00 ∷ 0x40 ∷ 0x04 ∷ []) (1 ∷ 6 ∷ 99 ∷ 99 ∷ []))
    ∷ example (tried cut_and_twice 9 4) (outcome 0 (9 ∷ 1 ∷ 0 ∷ 0 ∷ 1 ∷ []) (0x80 ∷ 0x04 ∷ 0x00 ∷ 0x08 ∷ 0x00 ∷ 0x00 ∷ 0x00 ∷ 0x40 ∷ 0x04 ∷ []) (1 ∷ 6 ∷ 99 ∷ 99 ∷ []))
    ∷ example (tried cut_and_equal 9 4) (outcome 0 (9 ∷ 1 ∷ 0 ∷ 0 ∷ 1 ∷ []) first (1 ∷ 6 ∷ 99 ∷ 99 ∷ []))
    -- five cells, of which two can be saved; and those five with the last byte gone
    ∷ example (tried damaged 15 11) (outcome 0 (14 ∷ 3 ∷ 1 ∷ 1 ∷ 0 ∷ []) (0x80 ∷ 0x04 ∷ 0x00 ∷ 0x10 ∷ 0x00 ∷ 0x00 ∷ 0x00 ∷ 0xC0 ∷ 0x02 ∷ 0x00 ∷ 0x30 ∷ 0x00 ∷ 0x80 ∷ 0x08 ∷ 9 ∷ []) (1 ∷ 7 ∷ 2 ∷ 8 ∷ 3 ∷ 23 ∷ 99 ∷ 99 ∷ 99 ∷ 99 ∷ 99 ∷ []))
    ∷ example (tried (take 28 damaged) 9 10) (outcome 0 (9 ∷ 4 ∷ 1 ∷ 0 ∷ 1 ∷ []) (0x80 ∷ 0x04 ∷ 0x00 ∷ 0x08 ∷ 0x00 ∷ 0x00 ∷ 0x00 ∷ 0xC0 ∷ 0x02 ∷ []) (1 ∷ 7 ∷ 2 ∷ 8 ∷ 3 ∷ 23 ∷ 4 ∷ 6 ∷ 99 ∷ 99 ∷ []))
    -- intervals 1 0, 0 1, 1 2 and 2 2; tetrahedra 3 1 0 2 and 0 1 2 3
    ∷ example (tried (0x40 ∷ 0x03 ∷ 0x00 ∷ 0x20 ∷ 0x00 ∷ 0x08 ∷ 0x00 ∷ 0x00 ∷ 0x00 ∷ 0x00 ∷ 0x10 ∷ 0x00 ∷ 0x80 ∷ 0x08 ∷ 0x00 ∷ 0x40 ∷ 0x02 ∷ []) 11 8) (outcome 0 (11 ∷ 2 ∷ 0 ∷ 0 ∷ 0 ∷ []) (0x40 ∷ 0x03 ∷ 0x00 ∷ 0x10 ∷ 0x00 ∷ 0x08 ∷ 0x00 ∷ 0x00 ∷ 0x02 ∷ 0x00 ∷ 0x20 ∷ []) (1 ∷ 23 ∷ 3 ∷ 8 ∷ 99 ∷ 99 ∷ 99 ∷ 99 ∷ []))
    ∷ example (tried (0xC0 ∷ 0x04 ∷ 0x00 ∷ 0x10 ∷ 0x00 ∷ 0x18 ∷ 0x00 ∷ 0x40 ∷ 0x00 ∷ 0x00 ∷ 0x20 ∷ 0x00 ∷ 0x00 ∷ 0x04 ∷ 0x00 ∷ 0x40 ∷ 0x03 ∷ []) 11 4) (outcome 0 (11 ∷ 1 ∷ 0 ∷ 0 ∷ 0 ∷ []) (0xC0 ∷ 0x04 ∷ 0x00 ∷ 0x08 ∷ 0x00 ∷ 0x18 ∷ 0x00 ∷ 0x40 ∷ 0x00 ∷ 0x00 ∷ 0x20 ∷ []) (1 ∷ 23 ∷ 99 ∷ 99 ∷ []))
    -- 1, 2, 3 and 4 in their order, before 18 and 21; nothing is given, and nothing changes
    ∷ example (tried (take 3 sheet) 1 1 ++ tried (0x20 ∷ 0x01 ∷ 0x80 ∷ 0x08 ∷ []) 1 1) (1 ∷ 9 ∷ 99 ∷ 2 ∷ 9 ∷ 99 ∷ [])
    ∷ example (tried (0xA0 ∷ 0x01 ∷ 0x80 ∷ 0x08 ∷ []) 1 1 ++ tried (0xA0 ∷ 0x00 ∷ 0x80 ∷ 0x08 ∷ []) 1 1) (3 ∷ 9 ∷ 99 ∷ 4 ∷ 9 ∷ 99 ∷ [])
    -- 8,192 vertices are not too many
    ∷ example (tried (0xA0 ∷ 0x00 ∷ 0x00 ∷ 0x00 ∷ []) 4 0) (outcome 0 (4 ∷ 0 ∷ 0 ∷ 0 ∷ 0 ∷ []) (0xA0 ∷ 0x00 ∷ 0x00 ∷ 0x00 ∷ []) [])
    ∷ []

pub salvage-holds : all_of holds salvage-examples ≡ true
unfolding opened holds sheet sheet_with empty first falling equals equal_twice out_and_twice cut_and_out cut_and_twice cut_and_equal damaged outcome tried salvage-examples
salvage-holds = refl
