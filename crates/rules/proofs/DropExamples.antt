-- Room given back, by hand: T with all nine relations, and T in a right book that lies about the number of its edges.
use mathlib.Core.Path.{◌≡◌, refl}
use mathlib.Core.Bool.{true}
use mathlib.Core.List.{List, [], ◌∷◌}
use Prim.Native.Nat.{ℕ}
use lib.ListN.{get_or, replicate}
use Rattle.rules.specs.Lists.{all_of}
use Rattle.rules.specs.Book.{frame_right, rows_right}
use Rattle.rules.specs.Calls.{load_words, make_number, make_words, ask_number, ask_words, words_of, drop_number, drop_words}
use Rattle.rules.proofs.Opened.{opened}
use Rattle.rules.proofs.Examples.{Example, example, holds, sheet}

-- T in 119 words, asked for each of the pairs
unfoldable asked-for : List ℕ → List ℕ
asked-for ps = words_of (load_words sheet (replicate 119 7)) ps

-- with all nine relations: every word is used
unfoldable nine : List ℕ
nine = asked-for (0 ∷ 0 ∷ 0 ∷ 1 ∷ 0 ∷ 2 ∷ 1 ∷ 0 ∷ 1 ∷ 1 ∷ 1 ∷ 2 ∷ 2 ∷ 1 ∷ 2 ∷ 2 ∷ [])

-- and without the five that name 1
unfoldable four : List ℕ
four = drop_words (drop_words (drop_words (drop_words (drop_words nine 1 0) 0 1) 1 1) 1 2) 2 1

-- the relations held, N_1, N_2 and the used length
unfoldable head : List ℕ → List ℕ
head ws = get_or ws 1 0 ∷ get_or ws 2 0 ∷ get_or ws 3 0 ∷ get_or ws 4 0 ∷ []

-- T's 2→0 and an empty 0→1 that keeps N_1 = 4, with no word to spare; Build finds five edges
unfoldable pub liar : List ℕ
liar = 0x80040010 ∷ 258 ∷ 4 ∷ 0 ∷ 19 ∷ 0 ∷ 0 ∷ 0 ∷ 0 ∷ 0 ∷ 0 ∷ 3 ∷ 6 ∷ 0 ∷ 1 ∷ 3 ∷ 1 ∷ 2 ∷ 3 ∷ []

pub drop-examples : List Example
drop-examples =
    example (head nine) (1911 ∷ 5 ∷ 0 ∷ 119 ∷ [])
    -- 1→0 goes, and N_1 stays, for others name 1
    ∷ example (head (drop_words nine 1 0)) (1895 ∷ 5 ∷ 0 ∷ 103 ∷ [])
    -- made or asked for again: the same words
    ∷ example (make_words (drop_words nine 1 0) 1 0) nine
    ∷ example (ask_words (drop_words nine 1 0) 1 0) nine
    -- a relation held is no reason to make what it was made from: an ask for 1→1 changes nothing
    ∷ example (ask_words (drop_words nine 1 0) 1 1) (drop_words nine 1 0)
    -- the last that names 1 goes, and N_1 with it
    ∷ example (head four) (1285 ∷ 0 ∷ 0 ∷ 45 ∷ [])
    -- an ask brings back what it needs: the words of a fresh book with the same set
    ∷ example (ask_words four 2 1) (asked-for (2 ∷ 1 ∷ 2 ∷ 2 ∷ 0 ∷ 2 ∷ 0 ∷ 0 ∷ []))
    -- over D, not held, D→0
    ∷ example (drop_number nine 3 0 ∷ drop_number nine 0 3 ∷ drop_number four 2 1 ∷ drop_number nine 2 0 ∷ []) (12 ∷ 12 ∷ 16 ∷ 24 ∷ [])
    -- a book that lies: its edges can be neither made nor asked for, and there is no room either
    ∷ example (make_number liar 1 0 ∷ ask_number liar 1 0 ∷ ask_number liar 2 1 ∷ ask_number liar 0 2 ∷ []) (25 ∷ 25 ∷ 25 ∷ 13 ∷ [])
    -- until what keeps N_1 is dropped: its words are free, and nothing stands against the edges but the room
    ∷ example (drop_words liar 0 1) (0x80040010 ∷ 256 ∷ 0 ∷ 0 ∷ 14 ∷ 0 ∷ 3 ∷ 6 ∷ 0 ∷ 1 ∷ 3 ∷ 1 ∷ 2 ∷ 3 ∷ 0 ∷ 0 ∷ 0 ∷ 0 ∷ 0 ∷ [])
    ∷ example (make_number (drop_words liar 0 1) 1 0 ∷ []) (13 ∷ [])
    ∷ []

pub drops-hold : all_of holds drop-examples ≡ true
unfolding opened holds sheet asked-for nine four head liar drop-examples
drops-hold = refl

-- the lying book's frame and rows are right
pub liar-right : (frame_right liar ≡ true) × (rows_right liar ≡ true)
unfolding opened liar
liar-right = (refl, refl)
