-- Upright boxes by hand, on T: its edges are 0 1, 0 3, 1 3, 1 2 and 2 3, its faces 0 1 3 and 1 2 3. Floats are given by their bits.
use mathlib.Core.Path.{◌≡◌, refl}
use mathlib.Core.Bool.{true}
use mathlib.Core.List.{List, [], ◌∷◌, ◌++◌, map}
use Prim.Native.Nat.{ℕ}
use lib.ListN.{replicate}
use lib.Ieee.{binary64, lt, of_bits, to_bits}
use Rattle.rules.specs.Lists.{all_of}
use Rattle.rules.specs.Calls.{load_words}
use Rattle.rules.specs.Boxes.{box_number, box_given, whole_number, whole_given}
use Rattle.rules.proofs.Opened.{opened}
use Rattle.rules.proofs.Examples.{Example, example, holds, sheet, sheet_with, empty}
use Rattle.rules.proofs.PhaseExamples.{edged, floats}

-- T as it was loaded, without 1→0
unfoldable bare : List ℕ
bare = load_words sheet (replicate 14 7)

-- T with its first row falling, 1 0 3
unfoldable falling : List ℕ
falling = 0x80040010 ∷ 256 ∷ 0 ∷ 0 ∷ 14 ∷ 0 ∷ 3 ∷ 6 ∷ 1 ∷ 0 ∷ 3 ∷ 1 ∷ 2 ∷ 3 ∷ []

-- T with a fifth point that no cell has
unfoldable fifth : List ℕ
fifth = load_words (sheet_with 5 0x0C) (replicate 14 7)

-- two points, and no cell
unfoldable apart : List ℕ
apart = load_words (0x80 ∷ 2 ∷ 0x00 ∷ 0x00 ∷ []) (replicate 6 7)

-- T's points: (−1.5, 0.5), (2, 0.25), (3, 4) and (0.125, −2)
unfoldable pub points : List ℕ
points = 0xbff8_0000_0000_0000 ∷ 0x3fe0_0000_0000_0000 ∷ 0x4000_0000_0000_0000 ∷ 0x3fd0_0000_0000_0000
    ∷ 0x4008_0000_0000_0000 ∷ 0x4010_0000_0000_0000 ∷ 0x3fc0_0000_0000_0000 ∷ 0xc000_0000_0000_0000 ∷ []

-- the same with a third axis: 1, −1, 0.5 and −0.0
unfoldable heights : List ℕ
heights = 0xbff8_0000_0000_0000 ∷ 0x3fe0_0000_0000_0000 ∷ 0x3ff0_0000_0000_0000
    ∷ 0x4000_0000_0000_0000 ∷ 0x3fd0_0000_0000_0000 ∷ 0xbff0_0000_0000_0000
    ∷ 0x4008_0000_0000_0000 ∷ 0x4010_0000_0000_0000 ∷ 0x3fe0_0000_0000_0000
    ∷ 0x3fc0_0000_0000_0000 ∷ 0xc000_0000_0000_0000 ∷ 0x8000_0000_0000_0000
    ∷ []

-- T's points at zeros of both signs: (−0.0, 0.0), (0.0, −0.0), (0.0, −0.0) and (−0.0, 0.0)
unfoldable zeros : List ℕ
zeros = 0x8000_0000_0000_0000 ∷ 0 ∷ 0 ∷ 0x8000_0000_0000_0000 ∷ 0 ∷ 0x8000_0000_0000_0000 ∷ 0x8000_0000_0000_0000 ∷ 0 ∷ []

-- a NaN, and the infinities
unfoldable no_number : ℕ
no_number = 0x7ff8_0000_0000_0000

unfoldable endless : ℕ
endless = 0x7ff0_0000_0000_0000

unfoldable endless_below : ℕ
endless_below = 0xfff0_0000_0000_0000

-- the number of the box of (d, i), then its ends by their bits
unfoldable box : List ℕ → List ℕ → ℕ → ℕ → ℕ → List ℕ
box ws bits axes d i = box_number ws (floats bits) axes d i ∷ map (to_bits binary64) (box_given ws (floats bits) axes d i)

-- the same of the whole mesh
unfoldable whole : List ℕ → List ℕ → ℕ → List ℕ
whole ws bits axes = whole_number ws (floats bits) axes ∷ map (to_bits binary64) (whole_given ws (floats bits) axes)

pub box-examples : List Example
box-examples =
    -- cell 1, edge 1 and the whole mesh with two axes: the third's ends are 0.0
    example (box edged points 2 2 1) (0 ∷ 0x3fc0_0000_0000_0000 ∷ 0x4008_0000_0000_0000 ∷ 0xc000_0000_0000_0000 ∷ 0x4010_0000_0000_0000 ∷ 0 ∷ 0 ∷ [])
    ∷ example (box edged points 2 1 1) (0 ∷ 0xbff8_0000_0000_0000 ∷ 0x3fc0_0000_0000_0000 ∷ 0xc000_0000_0000_0000 ∷ 0x3fe0_0000_0000_0000 ∷ 0 ∷ 0 ∷ [])
    ∷ example (whole edged points 2) (0 ∷ 0xbff8_0000_0000_0000 ∷ 0x4008_0000_0000_0000 ∷ 0xc000_0000_0000_0000 ∷ 0x4010_0000_0000_0000 ∷ 0 ∷ 0 ∷ [])
    -- cell 1 with three
    ∷ example (box edged heights 3 2 1) (0 ∷ 0x3fc0_0000_0000_0000 ∷ 0x4008_0000_0000_0000 ∷ 0xc000_0000_0000_0000 ∷ 0x4010_0000_0000_0000 ∷ 0xbff0_0000_0000_0000 ∷ 0x3fe0_0000_0000_0000 ∷ [])
    -- a vertex is both ends, bit for bit, and 0→0 is not asked for
    ∷ example (box bare heights 3 0 3) (0 ∷ 0x3fc0_0000_0000_0000 ∷ 0x3fc0_0000_0000_0000 ∷ 0xc000_0000_0000_0000 ∷ 0xc000_0000_0000_0000 ∷ 0x8000_0000_0000_0000 ∷ 0x8000_0000_0000_0000 ∷ [])
    -- of two zeros the lower vertex's stays, for the least and for the greatest: edge 0 1, then edge 2 3
    ∷ example (box edged zeros 2 1 0) (0 ∷ 0x8000_0000_0000_0000 ∷ 0x8000_0000_0000_0000 ∷ 0 ∷ 0 ∷ 0 ∷ 0 ∷ [])
    ∷ example (box edged zeros 2 1 4) (0 ∷ 0 ∷ 0 ∷ 0x8000_0000_0000_0000 ∷ 0x8000_0000_0000_0000 ∷ 0 ∷ 0 ∷ [])
    -- a point that no cell has is not in the whole mesh's box, and has one of its own
    ∷ example (whole fifth (points ++ (0x4024_0000_0000_0000 ∷ 0xc024_0000_0000_0000 ∷ [])) 2) (whole edged points 2)
    ∷ example (box fifth (points ++ (0x4024_0000_0000_0000 ∷ 0xc024_0000_0000_0000 ∷ [])) 2 0 4) (0 ∷ 0x4024_0000_0000_0000 ∷ 0x4024_0000_0000_0000 ∷ 0xc024_0000_0000_0000 ∷ 0xc024_0000_0000_0000 ∷ 0 ∷ 0 ∷ [])
    -- no cell: accepted, and no box
    ∷ example (whole apart (0 ∷ 0 ∷ 0 ∷ 0 ∷ []) 2) (0 ∷ [])
    ∷ example (whole (load_words empty (replicate 6 7)) [] 3) (0 ∷ [])
    -- 26 for every axis count but 2 and 3, also where the list has another length
    ∷ example (box edged points 1 2 1 ++ (box edged points 4 2 1 ++ box edged points 4294967295 2 1)) (26 ∷ 26 ∷ 26 ∷ [])
    ∷ example (whole edged (0 ∷ 0 ∷ 0 ∷ 0 ∷ []) 1 ++ (whole edged points 0 ++ whole edged [] 4294967295)) (26 ∷ 26 ∷ 26 ∷ [])
    -- 21 for a list too short or too long, also with a NaN in it
    ∷ example (box edged points 3 2 1 ++ (box edged heights 2 2 1 ++ (box edged (no_number ∷ []) 2 2 1 ++ whole edged (no_number ∷ points) 2))) (21 ∷ 21 ∷ 21 ∷ 21 ∷ [])
    -- 27 for a NaN and for an infinity, also at a vertex that the entity or every cell lacks
    ∷ example (box edged (no_number ∷ 0 ∷ 0 ∷ 0 ∷ 0 ∷ 0 ∷ 0 ∷ 0 ∷ []) 2 2 1 ++ box edged (0 ∷ 0 ∷ 0 ∷ 0 ∷ 0 ∷ 0 ∷ 0 ∷ endless ∷ []) 2 2 1) (27 ∷ 27 ∷ [])
    ∷ example (whole fifth (points ++ (0 ∷ endless_below ∷ [])) 2 ++ box fifth (points ++ (no_number ∷ 0 ∷ [])) 2 2 0) (27 ∷ 27 ∷ [])
    -- 10 where there is no book, 11 where a row falls; 12, 15 before 1→0 is made, and 17, before the coordinates are looked at
    ∷ example (box [] [] 1 0 0 ++ (whole [] [] 1 ++ (box falling [] 1 3 0 ++ whole falling [] 1))) (10 ∷ 10 ∷ 11 ∷ 11 ∷ [])
    ∷ example (box bare [] 1 3 0 ++ (box bare [] 1 1 9 ++ (box edged [] 1 1 5 ++ box bare [] 1 0 4))) (12 ∷ 15 ∷ 17 ∷ 17 ∷ [])
    ∷ []

pub boxes-hold : all_of holds box-examples ≡ true
unfolding opened holds sheet sheet_with empty edged floats lt of_bits to_bits bare falling fifth apart points heights zeros no_number endless endless_below box whole box-examples
boxes-hold = refl
