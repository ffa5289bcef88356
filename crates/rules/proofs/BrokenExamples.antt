-- Broken books by hand: each kind alone, in T's book with 0→0 made, a row of the wrong size in an interval's; and several at once, where the lowest position of the first relation counts.
use mathlib.Core.Path.{◌≡◌, refl}
use mathlib.Core.Bool.{true}
use mathlib.Core.List.{List, [], ◌∷◌, ◌++◌}
use mathlib.Core.Option.{Option, none, some}
use Prim.Native.Nat.{ℕ, ◌+◌}
use lib.ListN.{take, drop, replicate}
use Rattle.rules.specs.Lists.{all_of}
use Rattle.rules.specs.Broken.{broken_at, row_broken_at, told}
use Rattle.rules.specs.Calls.{load_words, ask_words, write_number, row_number}
use Rattle.rules.proofs.Opened.{opened}
use Rattle.rules.proofs.Examples.{Example, example, holds, sheet}

-- T in 44 words: 0→0 has the offsets 0 2 5 7 10 in words 5 to 9 and its indices 1 3, 0 2 3, 1 3, 0 1 2 in words 10 to 19; 0→2, which it is made from, stands behind it; 2→0 has 0 3 6 in words 31 to 33 and 0 1 3, 1 2 3 in words 34 to 39; 40 words are used
unfoldable pub whole : List ℕ
whole = ask_words (load_words sheet (replicate 44 7)) 0 0

-- that book with word p set to v
unfoldable put : ℕ → ℕ → List ℕ → List ℕ
put p v ws = take p ws ++ (v ∷ drop (p + 1) ws)

-- a place as a list of none or two numbers
unfoldable listed : Option (ℕ × ℕ) → List ℕ
listed none = []
listed (some (k, p)) = k ∷ p ∷ []

-- the number of a write into no bytes, which is 18 on a right book, and the place that comes with it
unfoldable told-by : List ℕ → List ℕ
told-by ws = let n = write_number ws [] in n ∷ listed (told n (broken_at ws))

-- the number of Row for row 1 of 0→0, and the place that comes with it
unfoldable row_by : List ℕ → List ℕ
row_by ws = let n = row_number ws 0 0 1 in n ∷ listed (told n (row_broken_at ws 0 0 1))

pub broken-examples : List Example
broken-examples =
    -- a right book
    example (told-by whole) (18 ∷ [])
    -- the first offset is 1
    ∷ example (told-by (put 5 1 whole)) (11 ∷ 0 ∷ 0 ∷ [])
    -- an offset falls, from 2 to 1
    ∷ example (told-by (put 7 1 whole)) (11 ∷ 0 ∷ 2 ∷ [])
    -- the one cell of a mesh of intervals has three vertices
    ∷ example (told-by (0x40030008 ∷ 16 ∷ 0 ∷ 0 ∷ 10 ∷ 0 ∷ 3 ∷ 0 ∷ 1 ∷ 2 ∷ [])) (11 ∷ 4 ∷ 1 ∷ [])
    -- an index equals its predecessor
    ∷ example (told-by (put 11 1 whole)) (11 ∷ 0 ∷ 6 ∷ [])
    -- an index is N_0
    ∷ example (told-by (put 11 4 whole)) (11 ∷ 0 ∷ 6 ∷ [])
    -- the second cell has the vertices of the first
    ∷ example (told-by (put 37 0 (put 38 1 whole))) (11 ∷ 8 ∷ 6 ∷ [])
    -- the third free word is 9
    ∷ example (told-by (put 42 9 whole)) (11 ∷ 16 ∷ 2 ∷ [])
    -- an index is N_0, and so its successor is below it: the index
    ∷ example (told-by (put 10 4 whole)) (11 ∷ 0 ∷ 5 ∷ [])
    -- a cell has four vertices, and the next two: the first offset
    ∷ example (told-by (put 32 4 whole)) (11 ∷ 8 ∷ 1 ∷ [])
    -- an empty row, which is none, and the row behind it: 1 3 0 2 3 does not ascend
    ∷ example (told-by (put 6 0 whole)) (11 ∷ 0 ∷ 7 ∷ [])
    -- an index of row 0 and a later offset: the offset
    ∷ example (told-by (put 11 1 (put 8 4 whole))) (11 ∷ 0 ∷ 3 ∷ [])
    -- an index of the first cell, which the second repeats: the index
    ∷ example (told-by (put 36 9 (put 37 0 (put 38 1 (put 39 9 whole))))) (11 ∷ 8 ∷ 5 ∷ [])
    -- the second cell repeats the first, and the first has seven vertices by its offset: the offset
    ∷ example (told-by (put 32 7 (put 37 0 (put 38 1 whole)))) (11 ∷ 8 ∷ 1 ∷ [])
    -- two relations and a free word: the first relation
    ∷ example (told-by (put 11 1 (put 32 4 (put 42 9 whole)))) (11 ∷ 0 ∷ 6 ∷ [])
    -- a relation and a free word
    ∷ example (told-by (put 32 4 (put 42 9 whole))) (11 ∷ 8 ∷ 1 ∷ [])
    -- Row: its first offset passes the total, its second falls, its second passes the total; another row's offsets are not looked at
    ∷ example (row_by (put 6 11 whole)) (11 ∷ 0 ∷ 1 ∷ [])
    ∷ example (row_by (put 7 1 whole)) (11 ∷ 0 ∷ 2 ∷ [])
    ∷ example (row_by (put 7 11 whole)) (11 ∷ 0 ∷ 2 ∷ [])
    ∷ example (row_by (put 5 1 whole)) (0 ∷ [])
    ∷ []

pub broken-hold : all_of holds broken-examples ≡ true
unfolding opened holds sheet whole put listed told-by row_by broken-examples
broken-hold = refl
