-- Cells sent in another order, by hand: T, intervals, triangles and tetrahedra in two orders, and the relations whose words then differ.
use mathlib.Core.Path.{◌≡◌, refl}
use mathlib.Core.Bool.{true, cond, not}
use mathlib.Core.List.{List, [], ◌∷◌, map}
use Prim.Native.Nat.{ℕ, ◌/◌, ◌%◌}
use lib.ListN.{length, replicate}
use Rattle.rules.specs.Lists.{up_to, all_of, keep, same, joined, sorted}
use Rattle.rules.specs.File.{cells_in_file, file_bytes}
use Rattle.rules.specs.Book.{rows_of, relation_words}
use Rattle.rules.specs.Calls.{load_number, load_words, ask_words}
use Rattle.rules.specs.Truth.{first_word}
use Rattle.rules.specs.SameCells.{same_sets}
use Rattle.rules.proofs.Opened.{opened}
use Rattle.rules.proofs.Examples.{Example, example, holds, sheet}

-- T sent again: 3 1 2 and then 1 3 0
unfoldable pub sheet_again : List ℕ
sheet_again = 0x80 ∷ 0x04 ∷ 0x00 ∷ 0x10 ∷ 0x00 ∷ 0x18 ∷ 0x00 ∷ 0x40 ∷ 0x04 ∷ 0x00 ∷ 0x10 ∷ 0x01 ∷ 0x80 ∷ 0x00 ∷ []

-- the file of D, N_0 and cells
unfoldable sent : ℕ → ℕ → List (List ℕ) → List ℕ
sent D n cs = file_bytes D (length cs) (first_word (record { dims = D; vertices = n; cells = cs })) (joined cs)

-- two neighbours with D vertices in common, and one more that has a vertex in common with the second alone: in one order, and with the first two changed over
unfoldable three_intervals : List ℕ
three_intervals = sent 1 4 ((0 ∷ 1 ∷ []) ∷ (1 ∷ 2 ∷ []) ∷ (2 ∷ 3 ∷ []) ∷ [])

unfoldable three_intervals_again : List ℕ
three_intervals_again = sent 1 4 ((1 ∷ 2 ∷ []) ∷ (0 ∷ 1 ∷ []) ∷ (2 ∷ 3 ∷ []) ∷ [])

unfoldable three_triangles : List ℕ
three_triangles = sent 2 6 ((0 ∷ 1 ∷ 2 ∷ []) ∷ (1 ∷ 2 ∷ 3 ∷ []) ∷ (3 ∷ 4 ∷ 5 ∷ []) ∷ [])

unfoldable three_triangles_again : List ℕ
three_triangles_again = sent 2 6 ((1 ∷ 2 ∷ 3 ∷ []) ∷ (0 ∷ 1 ∷ 2 ∷ []) ∷ (3 ∷ 4 ∷ 5 ∷ []) ∷ [])

unfoldable three_tetrahedra : List ℕ
three_tetrahedra = sent 3 8 ((0 ∷ 1 ∷ 2 ∷ 3 ∷ []) ∷ (1 ∷ 2 ∷ 3 ∷ 4 ∷ []) ∷ (4 ∷ 5 ∷ 6 ∷ 7 ∷ []) ∷ [])

unfoldable three_tetrahedra_again : List ℕ
three_tetrahedra_again = sent 3 8 ((1 ∷ 2 ∷ 3 ∷ 4 ∷ []) ∷ (0 ∷ 1 ∷ 2 ∷ 3 ∷ []) ∷ (4 ∷ 5 ∷ 6 ∷ 7 ∷ []) ∷ [])

-- the words of a file in a book of 600, once it is asked for the relation of key k
unfoldable book_with : List ℕ → ℕ → List ℕ
book_with f k = ask_words (load_words f (replicate 600 7)) (k / 4) (k % 4)

-- two files: whether each is accepted, and whether they have the same set of cells
unfoldable compared : List ℕ → List ℕ → List ℕ
compared f g =
    load_number f (replicate 600 7) ∷ load_number g (replicate 600 7)
    ∷ cond (same_sets (map sorted (cells_in_file f)) (map sorted (cells_in_file g))) 1 0 ∷ []

-- the keys, of those given, of the relations whose words differ
unfoldable differing : List ℕ → List ℕ → List ℕ → List ℕ
differing f g ks = keep (λ k. not (same (relation_words (book_with f k) k) (relation_words (book_with g k) k))) ks

pub order-examples : List Example
order-examples =
    -- T: the edges 0 1, 0 3, 1 3, 1 2, 2 3 have the numbers 3, 4, 1, 0, 2 when its cells are sent again; all words differ but those of 0→0 and, with two cells only, of 2→2
    example (compared sheet sheet_again) (0 ∷ 0 ∷ 1 ∷ [])
    ∷ example (joined (rows_of (book_with sheet 4) 4)) (0 ∷ 1 ∷ 0 ∷ 3 ∷ 1 ∷ 3 ∷ 1 ∷ 2 ∷ 2 ∷ 3 ∷ [])
    ∷ example (joined (rows_of (book_with sheet_again 4) 4)) (1 ∷ 2 ∷ 1 ∷ 3 ∷ 2 ∷ 3 ∷ 0 ∷ 1 ∷ 0 ∷ 3 ∷ [])
    ∷ example (differing sheet sheet_again (0 ∷ 1 ∷ 2 ∷ 4 ∷ 5 ∷ 6 ∷ 8 ∷ 9 ∷ 10 ∷ [])) (1 ∷ 2 ∷ 4 ∷ 5 ∷ 6 ∷ 8 ∷ 9 ∷ [])
    -- with three cells the words of every relation but 0→0 differ: of intervals, of triangles, of tetrahedra
    ∷ example (compared three_intervals three_intervals_again) (0 ∷ 0 ∷ 1 ∷ [])
    ∷ example (differing three_intervals three_intervals_again (0 ∷ 1 ∷ 4 ∷ 5 ∷ [])) (1 ∷ 4 ∷ 5 ∷ [])
    ∷ example (compared three_triangles three_triangles_again) (0 ∷ 0 ∷ 1 ∷ [])
    ∷ example (differing three_triangles three_triangles_again (0 ∷ 1 ∷ 2 ∷ 4 ∷ 5 ∷ 6 ∷ 8 ∷ 9 ∷ 10 ∷ [])) (1 ∷ 2 ∷ 4 ∷ 5 ∷ 6 ∷ 8 ∷ 9 ∷ 10 ∷ [])
    ∷ example (compared three_tetrahedra three_tetrahedra_again) (0 ∷ 0 ∷ 1 ∷ [])
    ∷ example (differing three_tetrahedra three_tetrahedra_again (up_to 16)) (1 ∷ 2 ∷ 3 ∷ 4 ∷ 5 ∷ 6 ∷ 7 ∷ 8 ∷ 9 ∷ 10 ∷ 11 ∷ 12 ∷ 13 ∷ 14 ∷ 15 ∷ [])
    -- one cell changed, or one fewer: not the same set
    ∷ example (compared three_triangles (sent 2 6 ((0 ∷ 1 ∷ 2 ∷ []) ∷ (1 ∷ 2 ∷ 3 ∷ []) ∷ (2 ∷ 4 ∷ 5 ∷ []) ∷ []))) (0 ∷ 0 ∷ 0 ∷ [])
    ∷ example (compared three_triangles (sent 2 6 ((0 ∷ 1 ∷ 2 ∷ []) ∷ (1 ∷ 2 ∷ 3 ∷ []) ∷ []))) (0 ∷ 0 ∷ 0 ∷ [])
    ∷ example (compared (sent 2 6 ((0 ∷ 1 ∷ 2 ∷ []) ∷ (1 ∷ 2 ∷ 3 ∷ []) ∷ [])) three_triangles) (0 ∷ 0 ∷ 0 ∷ [])
    ∷ []

pub orders-hold : all_of holds order-examples ≡ true
unfolding opened holds sheet sheet_again sent three_intervals three_intervals_again three_triangles three_triangles_again three_tetrahedra three_tetrahedra_again book_with compared differing order-examples
orders-hold = refl
