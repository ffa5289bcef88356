-- The sheet profile by hand: T, a fan around vertex 1, two triangles that share a vertex, the surface of a tetrahedron and no cell; refusals in their order, each with what it carries; and books that lie.
use mathlib.Core.Path.{◌≡◌, refl}
use mathlib.Core.Bool.{true}
use mathlib.Core.List.{List, [], ◌∷◌, ◌++◌}
use Prim.Native.Nat.{ℕ}
use lib.ListN.{take, drop, set, replicate}
use Rattle.rules.specs.Lists.{all_of}
use Rattle.rules.specs.Calls.{load_number, load_words, words_of, drop_words}
use Rattle.rules.specs.Sheet.{rim_file, sheet_answer, sheet_given, sheet_across, sheet_bytes, sheet_vertices, sheet_edges}
use Rattle.rules.proofs.Opened.{opened}
use Rattle.rules.proofs.Examples.{Example, example, holds, sheet, sheet_with, empty, pages}
use Rattle.rules.proofs.EulerExamples.{tetrahedron}

-- 4 1 3, 0 1 2, 1 4 0, 3 2 1: vertex 1 is in every cell, and the rim goes around it
unfoldable fan : List ℕ
fan = 0x80 ∷ 0x05 ∷ 0x00 ∷ 0x20 ∷ 0x00 ∷ 0x20 ∷ 0x00 ∷ 0x40 ∷ 0x06 ∷ 0x00 ∷ 0x00 ∷ 0x00 ∷ 0x80 ∷ 0x08 ∷ 0x00 ∷ 0x20 ∷ 0x04 ∷ 0x00 ∷ 0x00 ∷ 0x00 ∷ 0xC0 ∷ 0x04 ∷ 0x00 ∷ 0x10 ∷ []

-- 0 1 2 and 0 3 4
unfoldable touching : List ℕ
touching = 0x80 ∷ 0x05 ∷ 0x00 ∷ 0x10 ∷ 0x00 ∷ 0x00 ∷ 0x00 ∷ 0x40 ∷ 0x04 ∷ 0x00 ∷ 0x00 ∷ 0x01 ∷ 0x80 ∷ 0x10 ∷ []

-- 0 1 2, 0 1 3, 0 2 3 and 1 2 3
unfoldable surface : List ℕ
surface = 0x80 ∷ 0x04 ∷ 0x00 ∷ 0x20 ∷ 0x00 ∷ 0x00 ∷ 0x00 ∷ 0x40 ∷ 0x04 ∷ 0x00 ∷ 0x00 ∷ 0x00 ∷ 0x80 ∷ 0x0C ∷ 0x00 ∷ 0x00 ∷ 0x02 ∷ 0x00 ∷ 0x18 ∷ 0x00 ∷ 0x40 ∷ 0x04 ∷ 0x00 ∷ 0x30 ∷ []

-- 1 2 3, and vertex 0 in no cell
unfoldable without_zero : List ℕ
without_zero = 0x80 ∷ 0x04 ∷ 0x00 ∷ 0x08 ∷ 0x00 ∷ 0x08 ∷ 0x00 ∷ 0x80 ∷ 0x06 ∷ []

-- a file's book of n words, asked for 2→1, which makes 1→0 too, and for 1→2
unfoldable flat : List ℕ → ℕ → List ℕ
flat f n = words_of (load_words f (replicate n 7)) (2 ∷ 1 ∷ 1 ∷ 2 ∷ [])

-- T's: 1→0 has its indices in words 26 to 35; 1→2 has the offsets 0 1 2 4 5 6 in words 36 to 41 and 0, 0, 0 1, 1, 1 in words 42 to 47; 2→1 has 0 3 6 in words 57 to 59 and 0 1 2, 2 3 4 in words 60 to 65, the last
unfoldable two : List ℕ
two = flat sheet 66

-- the answer, what is given, and the lent lists after the call: cells across, bytes, and the maps to the old vertices and edges
unfoldable outcome : List ℕ → List ℕ → List ℕ → List ℕ → List ℕ → List ℕ → List ℕ
outcome answer given xs bs vs es = answer ++ (given ++ (xs ++ (bs ++ (vs ++ es))))

-- on a book, with so many lent places of 9 in each list
unfoldable tried : List ℕ → ℕ → ℕ → ℕ → ℕ → List ℕ
tried ws a b v e =
    let xs : List ℕ = replicate a 9 in
    let bs : List ℕ = replicate b 9 in
    let vs : List ℕ = replicate v 9 in
    let es : List ℕ = replicate e 9 in
    outcome (sheet_answer ws a b v e) (sheet_given ws a b v e) (sheet_across ws xs bs vs es) (sheet_bytes ws xs bs vs es) (sheet_vertices ws xs bs vs es) (sheet_edges ws xs bs vs es)

-- the rim of T: 0 1, 0 3, 1 2 and 2 3
unfoldable around : List ℕ
around = 0x40 ∷ 0x04 ∷ 0x00 ∷ 0x20 ∷ 0x00 ∷ 0x00 ∷ 0x00 ∷ 0x40 ∷ 0x00 ∷ 0x00 ∷ 0x30 ∷ 0x00 ∷ 0x80 ∷ 0x08 ∷ 0x00 ∷ 0x40 ∷ 0x03 ∷ []

-- T's book with 0 2, 0 3, 1 3, 2 3 and 2 3 for its edges: right, and a sheet as far as the call can see
unfoldable alike : List ℕ
alike = take 26 two ++ ((0 ∷ 2 ∷ 0 ∷ 3 ∷ 1 ∷ 3 ∷ 2 ∷ 3 ∷ 2 ∷ 3 ∷ []) ++ drop 36 two)

pub sheet-examples : List Example
sheet-examples =
    -- T: across edge 2 the cells have each other; edges 0, 1, 3 and 4 are the rim
    example (tried two 6 17 4 4) (outcome (0 ∷ []) (17 ∷ 4 ∷ 4 ∷ []) (65535 ∷ 65535 ∷ 1 ∷ 0 ∷ 65535 ∷ 65535 ∷ []) around (0 ∷ 1 ∷ 2 ∷ 3 ∷ []) (0 ∷ 1 ∷ 3 ∷ 4 ∷ []))
    -- bytes and map places past what is written stay
    ∷ example (tried two 6 19 6 5) (outcome (0 ∷ []) (17 ∷ 4 ∷ 4 ∷ []) (65535 ∷ 65535 ∷ 1 ∷ 0 ∷ 65535 ∷ 65535 ∷ []) (around ++ (9 ∷ 9 ∷ [])) (0 ∷ 1 ∷ 2 ∷ 3 ∷ 9 ∷ 9 ∷ []) (0 ∷ 1 ∷ 3 ∷ 4 ∷ 9 ∷ []))
    -- a fan: the rim 3 4, 0 2, 0 4, 2 3 in edge order, by new numbers 2 3, 0 1, 0 3, 1 2
    ∷ example (tried (flat fan 107) 12 17 4 4) (outcome (0 ∷ []) (17 ∷ 4 ∷ 4 ∷ []) (3 ∷ 2 ∷ 65535 ∷ 2 ∷ 65535 ∷ 3 ∷ 0 ∷ 1 ∷ 65535 ∷ 0 ∷ 1 ∷ 65535 ∷ []) (0x40 ∷ 0x04 ∷ 0x00 ∷ 0x20 ∷ 0x00 ∷ 0x10 ∷ 0x00 ∷ 0xC0 ∷ 0x00 ∷ 0x00 ∷ 0x10 ∷ 0x00 ∷ 0x00 ∷ 0x0C ∷ 0x00 ∷ 0x20 ∷ 0x02 ∷ []) (0 ∷ 2 ∷ 3 ∷ 4 ∷ []) (2 ∷ 4 ∷ 6 ∷ 7 ∷ []))
    -- its rim loads in 18 words
    ∷ example (load_number (rim_file (flat fan 107)) (replicate 18 7) ∷ load_number (rim_file (flat fan 107)) (replicate 17 7) ∷ []) (0 ∷ 13 ∷ [])
    -- two triangles at one vertex: all six edges are the rim, four of them at vertex 0
    ∷ example (tried (flat touching 73) 6 24 5 6) (outcome (0 ∷ []) (24 ∷ 5 ∷ 6 ∷ []) (replicate 6 65535) (0x40 ∷ 0x05 ∷ 0x00 ∷ 0x30 ∷ 0x00 ∷ 0x00 ∷ 0x00 ∷ 0x40 ∷ 0x00 ∷ 0x00 ∷ 0x20 ∷ 0x00 ∷ 0x80 ∷ 0x08 ∷ 0x00 ∷ 0x00 ∷ 0x03 ∷ 0x00 ∷ 0x00 ∷ 0x01 ∷ 0x00 ∷ 0x06 ∷ 0x00 ∷ 0x40 ∷ []) (0 ∷ 1 ∷ 2 ∷ 3 ∷ 4 ∷ []) (0 ∷ 1 ∷ 2 ∷ 3 ∷ 4 ∷ 5 ∷ []))
    -- the surface of a tetrahedron has no rim, and the maps stay; no cell, no vertex
    ∷ example (tried (flat surface 94) 12 4 1 1) (outcome (0 ∷ []) (4 ∷ 0 ∷ 0 ∷ []) (1 ∷ 2 ∷ 3 ∷ 0 ∷ 2 ∷ 3 ∷ 0 ∷ 1 ∷ 3 ∷ 0 ∷ 1 ∷ 2 ∷ []) (0x40 ∷ 0x00 ∷ 0x00 ∷ 0x00 ∷ []) (9 ∷ []) (9 ∷ []))
    ∷ example (tried (flat (0x80 ∷ 0x00 ∷ 0x00 ∷ 0x00 ∷ []) 10) 0 4 0 0) (outcome (0 ∷ []) (4 ∷ 0 ∷ 0 ∷ []) [] (0x40 ∷ 0x00 ∷ 0x00 ∷ 0x00 ∷ []) [] [])
    -- a byte short; a place across too many or too few; a map short; 18 before 21
    ∷ example (tried two 6 16 4 4) (18 ∷ replicate 30 9)
    ∷ example (tried two 7 17 4 4 ++ tried two 5 17 4 4) ((21 ∷ replicate 32 9) ++ (21 ∷ replicate 30 9))
    ∷ example (tried two 6 17 3 4 ++ tried two 6 17 4 3) ((21 ∷ replicate 30 9) ++ (21 ∷ replicate 30 9))
    ∷ example (tried two 5 16 3 3) (18 ∷ replicate 27 9)
    -- no book; a free word that is not 0, with D = 2 and with D = 1
    ∷ example (tried [] 1 1 1 1) (10 ∷ 9 ∷ 9 ∷ 9 ∷ 9 ∷ [])
    ∷ example (tried (set (flat sheet 67) 66 1) 6 17 4 4) (11 ∷ replicate 31 9)
    ∷ example (tried (set (load_words empty (replicate 7 7)) 6 1) 0 4 0 0) (11 ∷ 9 ∷ 9 ∷ 9 ∷ 9 ∷ [])
    -- D = 1 and D = 3, where 1→2 and 2→1 are not held either: 28 with 1 before 15
    ∷ example (tried (load_words empty (replicate 6 7)) 0 0 0 0 ++ tried (load_words (tetrahedron 4) (replicate 11 7)) 0 0 0 0) (28 ∷ 1 ∷ 28 ∷ 1 ∷ [])
    -- nothing made; each of the three alone not held
    ∷ example (tried (load_words sheet (replicate 14 7)) 1 1 1 1) (15 ∷ 9 ∷ 9 ∷ 9 ∷ 9 ∷ [])
    ∷ example (tried (drop_words two 1 0) 0 0 0 0 ++ (tried (drop_words two 2 1) 0 0 0 0 ++ tried (drop_words two 1 2) 0 0 0 0)) (15 ∷ 15 ∷ 15 ∷ [])
    -- T with vertices 4 and 5 in no cell: the lower one, before 18 and 21; where nothing is made, 15 before it; vertex 0 in no cell
    ∷ example (tried (flat (sheet_with 6 0x0C) 68) 1 1 1 1) (28 ∷ 2 ∷ 4 ∷ 9 ∷ 9 ∷ 9 ∷ 9 ∷ [])
    ∷ example (tried (load_words (sheet_with 6 0x0C) (replicate 14 7)) 0 0 0 0) (15 ∷ [])
    ∷ example (tried (flat without_zero 43) 0 0 0 0) (28 ∷ 2 ∷ 0 ∷ [])
    -- three triangles at edge 0; and with vertex 5 in no cell, which is told first
    ∷ example (tried (flat pages 90) 1 1 1 1) (28 ∷ 3 ∷ 0 ∷ 9 ∷ 9 ∷ 9 ∷ 9 ∷ [])
    ∷ example (tried (flat (set pages 1 6) 91) 0 0 0 0) (28 ∷ 2 ∷ 5 ∷ [])
    -- T with 0, 0, 0 1, 0 1 and none for 1→2: edge 4 is in no cell, which is told before cell 1, which it does not list
    ∷ example (tried (set (set two 40 6) 46 0) 0 0 0 0) (28 ∷ 3 ∷ 4 ∷ [])
    -- T with 0 1 3 for the row of cell 0 in 2→1, which edge 3 does not list; with 1 3 4 for that of cell 1; with 0 1 and 1 2 3 4
    ∷ example (tried (set two 62 3) 1 1 1 1) (28 ∷ 4 ∷ 0 ∷ 9 ∷ 9 ∷ 9 ∷ 9 ∷ [])
    ∷ example (tried (set two 63 1) 0 0 0 0) (28 ∷ 4 ∷ 1 ∷ [])
    ∷ example (tried (set (set two 58 2) 62 1) 0 0 0 0) (28 ∷ 4 ∷ 0 ∷ [])
    -- two edges with the ends 2 3: the call accepts the book, and Load refuses the rim
    ∷ example (tried alike 6 17 3 4) (outcome (0 ∷ []) (17 ∷ 3 ∷ 4 ∷ []) (65535 ∷ 65535 ∷ 1 ∷ 0 ∷ 65535 ∷ 65535 ∷ []) (0x40 ∷ 0x03 ∷ 0x00 ∷ 0x20 ∷ 0x00 ∷ 0x00 ∷ 0x00 ∷ 0x40 ∷ 0x00 ∷ 0x00 ∷ 0x20 ∷ 0x00 ∷ 0x80 ∷ 0x08 ∷ 0x00 ∷ 0x20 ∷ 0x02 ∷ []) (0 ∷ 2 ∷ 3 ∷ []) (0 ∷ 1 ∷ 3 ∷ 4 ∷ []))
    ∷ example (load_number (rim_file alike) (replicate 18 7) ∷ []) (23 ∷ [])
    ∷ []

pub sheet-holds : all_of holds sheet-examples ≡ true
unfolding opened holds sheet sheet_with empty pages tetrahedron fan touching surface without_zero flat two outcome tried around alike sheet-examples
sheet-holds = refl
