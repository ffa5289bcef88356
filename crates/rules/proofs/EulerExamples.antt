-- The Euler number by hand: meshes with points nobody uses and without, and a right book that lies about such a point.
use mathlib.Core.Path.{◌≡◌, refl}
use mathlib.Core.Bool.{true}
use mathlib.Core.List.{List, [], ◌∷◌}
use Prim.Native.Nat.{ℕ, suc}
use lib.ListN.{replicate}
use lib.IntN.{ℤ, pos, negsuc}
use Rattle.rules.specs.Lists.{all_of}
use Rattle.rules.specs.Book.{dim, count}
use Rattle.rules.specs.Calls.{load_words, words_of, euler_number, alternating, used_vertices, euler_of}
use Rattle.rules.proofs.Opened.{opened}
use Rattle.rules.proofs.Examples.{Example, example, holds, sheet_with}

-- one tetrahedron, file order 3 1 0 2, and n points
unfoldable pub tetrahedron : ℕ → List ℕ
tetrahedron n = 0xC0 ∷ n ∷ 0x00 ∷ 0x08 ∷ 0x00 ∷ 0x18 ∷ 0x00 ∷ 0x40 ∷ 0x00 ∷ 0x00 ∷ 0x20 ∷ []

-- two intervals, 0 2 and 3 2, and n points
unfoldable pub intervals : ℕ → List ℕ
intervals n = 0x40 ∷ n ∷ 0x00 ∷ 0x10 ∷ 0x00 ∷ 0x00 ∷ 0x00 ∷ 0x80 ∷ 0x06 ∷ 0x00 ∷ 0x20 ∷ []

-- no cells, and forty points; the first byte decides D
unfoldable forty : ℕ → List ℕ
forty b = b ∷ 40 ∷ 0x00 ∷ 0x00 ∷ []

-- T with a fifth point that no cell has, its edges, and a 0→2 in which that point lies in cell 0
unfoldable stray : List ℕ
stray = 0x80050010 ∷ 276 ∷ 5 ∷ 0 ∷ 43
    ∷ 0 ∷ 1 ∷ 3 ∷ 4 ∷ 6 ∷ 7 ∷ 0 ∷ 0 ∷ 1 ∷ 1 ∷ 0 ∷ 1 ∷ 0
    ∷ 0 ∷ 2 ∷ 4 ∷ 6 ∷ 8 ∷ 10 ∷ 0 ∷ 1 ∷ 0 ∷ 3 ∷ 1 ∷ 3 ∷ 1 ∷ 2 ∷ 2 ∷ 3
    ∷ 0 ∷ 3 ∷ 6 ∷ 0 ∷ 1 ∷ 3 ∷ 1 ∷ 2 ∷ 3
    ∷ []

-- a whole number: 0 and its size, or 1 and its size where it is negative
unfoldable signed : ℤ → List ℕ
signed (pos n) = 0 ∷ n ∷ []
signed (negsuc n) = 1 ∷ suc n ∷ []

-- the file's book of n words, asked for each of the pairs
unfoldable book : List ℕ → ℕ → List ℕ → List ℕ
book f n ps = words_of (load_words f (replicate n 7)) ps

-- the call's number, then the Euler number by its sign and size
unfoldable euler : List ℕ → List ℕ
euler ws = euler_number ws ∷ signed (euler_of ws)

pub euler-examples : List Example
euler-examples =
    -- T, and T with forty points more, to which the file's N_0 would give 41
    example (euler (book (sheet_with 4 0x0C) 30 (1 ∷ 0 ∷ []))) (0 ∷ 0 ∷ 1 ∷ [])
    ∷ example (euler (book (sheet_with 44 0x0C) 30 (1 ∷ 0 ∷ []))) (0 ∷ 0 ∷ 1 ∷ [])
    ∷ example (let ws = book (sheet_with 44 0x0C) 30 (1 ∷ 0 ∷ []) in signed (alternating (dim ws) (count ws 0) (count ws))) (0 ∷ 41 ∷ [])
    ∷ example (used_vertices (book (sheet_with 44 0x0C) 14 [])) (0 ∷ 1 ∷ 2 ∷ 3 ∷ [])
    -- the edges are still asked for
    ∷ example (euler_number (book (sheet_with 44 0x0C) 14 []) ∷ []) (15 ∷ [])
    -- one tetrahedron, without and with forty points more
    ∷ example (euler (book (tetrahedron 4) 60 (1 ∷ 0 ∷ 2 ∷ 0 ∷ []))) (0 ∷ 0 ∷ 1 ∷ [])
    ∷ example (euler (book (tetrahedron 44) 60 (1 ∷ 0 ∷ 2 ∷ 0 ∷ []))) (0 ∷ 0 ∷ 1 ∷ [])
    -- two intervals that meet, with a point between their numbers, and with forty behind
    ∷ example (euler (book (intervals 4) 12 [])) (0 ∷ 0 ∷ 1 ∷ [])
    ∷ example (euler (book (intervals 44) 12 [])) (0 ∷ 0 ∷ 1 ∷ [])
    ∷ example (used_vertices (book (intervals 44) 12 [])) (0 ∷ 2 ∷ 3 ∷ [])
    -- no cells, and forty points
    ∷ example (euler (book (forty 0x40) 6 [])) (0 ∷ 0 ∷ 0 ∷ [])
    ∷ example (euler (book (forty 0x80) 7 (1 ∷ 0 ∷ []))) (0 ∷ 0 ∷ 0 ∷ [])
    ∷ example (euler (book (forty 0xC0) 8 (1 ∷ 0 ∷ 2 ∷ 0 ∷ []))) (0 ∷ 0 ∷ 0 ∷ [])
    -- D→0 decides who lies in a cell, not 0→D
    ∷ example (euler stray) (0 ∷ 0 ∷ 1 ∷ [])
    ∷ []

pub eulers-hold : all_of holds euler-examples ≡ true
unfolding opened holds sheet_with tetrahedron intervals forty stray signed book euler euler-examples
eulers-hold = refl
