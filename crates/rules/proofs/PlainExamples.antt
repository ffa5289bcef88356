-- A plain engine by hand: T, a tetrahedron, two intervals and no cell; the same after drops; books that lie, beside what Find says of them; and refusals in their order.
use mathlib.Core.Path.{◌≡◌, refl}
use mathlib.Core.Bool.{true, cond}
use mathlib.Core.List.{List, [], ◌∷◌, ◌++◌, map}
use Prim.Native.Nat.{ℕ, ◌+◌}
use lib.ListN.{set, replicate}
use Rattle.rules.specs.Lists.{up_to, all_of, keep}
use Rattle.rules.specs.Book.{relation}
use Rattle.rules.specs.Calls.{load_words, words_of, drop_words, find_number, find_found}
use Rattle.rules.specs.Plain.{plain_number, plain_yes}
use Rattle.rules.proofs.Opened.{opened}
use Rattle.rules.proofs.Examples.{Example, example, holds, sheet, empty}
use Rattle.rules.proofs.EulerExamples.{tetrahedron, intervals}
use Rattle.rules.proofs.DropExamples.{liar}

-- T in 14 words, as Load leaves it: D→0 alone is held
unfoldable fresh : List ℕ
fresh = load_words sheet (replicate 14 7)

-- a whole relation as the engine has it, for n rows and indices below m: offsets, then in each row those to which it says yes
unfoldable answered : List ℕ → ℕ → ℕ → ℕ → ℕ → List ℕ
answered ws d e n m = relation (map (λ i. keep (plain_yes ws d e i) (up_to m)) (up_to n))

-- a question's number, with 100 more where the answer is yes
unfoldable said : List ℕ → ℕ → ℕ → ℕ → ℕ → ℕ
said ws d e i j = plain_number ws d e i j + cond (plain_yes ws d e i j) 100 0

-- the same by Find
unfoldable found : List ℕ → ℕ → ℕ → ℕ → ℕ → ℕ
found ws d e i j = find_number ws d e i j + cond (find_found ws d e i j) 100 0

-- T asked for 2→1, which makes 1→0, and for 1→2: 1→0 has its indices in words 26 to 35, 2→1 has 0 1 2, 2 3 4 in words 60 to 65
unfoldable two : List ℕ
two = words_of (load_words sheet (replicate 66 7)) (2 ∷ 1 ∷ 1 ∷ 2 ∷ [])

-- and without 1→0, 0→1 and 2→1
unfoldable less : List ℕ
less = drop_words (drop_words (drop_words two 1 0) 0 1) 2 1

-- with 0 2 for edge 0 in 1→0, and 0 1 3 for cell 0 in 2→1
unfoldable edited : List ℕ
edited = set (set two 27 2) 62 3

-- T's 2→0 and an empty 1→2 that keeps N_1 = 6; there are five edges
unfoldable six : List ℕ
six = 0x80040010 ∷ 320 ∷ 6 ∷ 0 ∷ 21 ∷ 0 ∷ 0 ∷ 0 ∷ 0 ∷ 0 ∷ 0 ∷ 0 ∷ 0 ∷ 3 ∷ 6 ∷ 0 ∷ 1 ∷ 3 ∷ 1 ∷ 2 ∷ 3 ∷ []

-- T in 15 words with the last, a free one, not 0
unfoldable unfree : List ℕ
unfree = set (load_words sheet (replicate 15 7)) 14 1

pub plain-examples : List Example
plain-examples =
    -- T as loaded: every relation, none of which but 2→0 is held
    example (answered fresh 2 0 2 4) (0 ∷ 3 ∷ 6 ∷ 0 ∷ 1 ∷ 3 ∷ 1 ∷ 2 ∷ 3 ∷ [])
    ∷ example (answered fresh 1 0 5 4) (0 ∷ 2 ∷ 4 ∷ 6 ∷ 8 ∷ 10 ∷ 0 ∷ 1 ∷ 0 ∷ 3 ∷ 1 ∷ 3 ∷ 1 ∷ 2 ∷ 2 ∷ 3 ∷ [])
    ∷ example (answered fresh 2 1 2 5) (0 ∷ 3 ∷ 6 ∷ 0 ∷ 1 ∷ 2 ∷ 2 ∷ 3 ∷ 4 ∷ [])
    ∷ example (answered fresh 0 1 4 5) (0 ∷ 2 ∷ 5 ∷ 7 ∷ 10 ∷ 0 ∷ 1 ∷ 0 ∷ 2 ∷ 3 ∷ 3 ∷ 4 ∷ 1 ∷ 2 ∷ 4 ∷ [])
    ∷ example (answered fresh 0 2 4 2) (0 ∷ 1 ∷ 3 ∷ 4 ∷ 6 ∷ 0 ∷ 0 ∷ 1 ∷ 1 ∷ 0 ∷ 1 ∷ [])
    ∷ example (answered fresh 1 2 5 2) (0 ∷ 1 ∷ 2 ∷ 4 ∷ 5 ∷ 6 ∷ 0 ∷ 0 ∷ 0 ∷ 1 ∷ 1 ∷ 1 ∷ [])
    ∷ example (answered fresh 0 0 4 4) (0 ∷ 2 ∷ 5 ∷ 7 ∷ 10 ∷ 1 ∷ 3 ∷ 0 ∷ 2 ∷ 3 ∷ 1 ∷ 3 ∷ 0 ∷ 1 ∷ 2 ∷ [])
    ∷ example (answered fresh 1 1 5 5) (0 ∷ 3 ∷ 6 ∷ 10 ∷ 13 ∷ 16 ∷ 1 ∷ 2 ∷ 3 ∷ 0 ∷ 2 ∷ 4 ∷ 0 ∷ 1 ∷ 3 ∷ 4 ∷ 0 ∷ 2 ∷ 4 ∷ 1 ∷ 2 ∷ 3 ∷ [])
    ∷ example (answered fresh 2 2 2 2) (0 ∷ 1 ∷ 2 ∷ 1 ∷ 0 ∷ [])
    -- a no there is an answer and no refusal; an entity is not incident to itself
    ∷ example (map (said fresh 2 1 0) (up_to 6) ++ map (said fresh 1 1 4) (up_to 6)) (100 ∷ 100 ∷ 100 ∷ 0 ∷ 0 ∷ 19 ∷ 0 ∷ 100 ∷ 100 ∷ 100 ∷ 0 ∷ 19 ∷ [])
    ∷ example (map (λ i. said fresh 0 0 i i) (up_to 5) ++ map (λ i. said fresh 2 2 i i) (up_to 3)) (0 ∷ 0 ∷ 0 ∷ 0 ∷ 17 ∷ 0 ∷ 0 ∷ 17 ∷ [])
    -- the same with relations made, and with some of them dropped again
    ∷ example (answered two 2 1 2 5 ++ answered less 2 1 2 5) (answered fresh 2 1 2 5 ++ answered fresh 2 1 2 5)
    ∷ example (answered less 0 1 4 5 ++ (answered less 0 0 4 4 ++ answered less 1 1 5 5)) (answered fresh 0 1 4 5 ++ (answered fresh 0 0 4 4 ++ answered fresh 1 1 5 5))
    -- a tetrahedron: six edges 0 1, 0 2, 0 3, 1 2, 1 3, 2 3, and four faces 0 1 2, 0 1 3, 0 2 3, 1 2 3
    ∷ example (let ws = load_words (tetrahedron 4) (replicate 11 7) in answered ws 2 1 4 6 ++ (answered ws 1 1 6 6 ++ (answered ws 3 2 1 4 ++ (answered ws 2 3 4 1 ++ answered ws 3 3 1 1))))
    ((0 ∷ 3 ∷ 6 ∷ 9 ∷ 12 ∷ 0 ∷ 1 ∷ 3 ∷ 0 ∷ 2 ∷ 4 ∷ 1 ∷ 2 ∷ 5 ∷ 3 ∷ 4 ∷ 5 ∷ [])
    ++ ((0 ∷ 4 ∷ 8 ∷ 12 ∷ 16 ∷ 20 ∷ 24 ∷ 1 ∷ 2 ∷ 3 ∷ 4 ∷ 0 ∷ 2 ∷ 3 ∷ 5 ∷ 0 ∷ 1 ∷ 4 ∷ 5 ∷ 0 ∷ 1 ∷ 4 ∷ 5 ∷ 0 ∷ 2 ∷ 3 ∷ 5 ∷ 1 ∷ 2 ∷ 3 ∷ 4 ∷ [])
    ++ ((0 ∷ 4 ∷ 0 ∷ 1 ∷ 2 ∷ 3 ∷ []) ++ ((0 ∷ 1 ∷ 2 ∷ 3 ∷ 4 ∷ 0 ∷ 0 ∷ 0 ∷ 0 ∷ []) ++ (0 ∷ 0 ∷ [])))))
    -- two intervals, 0 2 and 2 3, and vertex 1 in no cell
    ∷ example (let ws = load_words (intervals 4) (replicate 12 7) in answered ws 1 0 2 4 ++ (answered ws 0 1 4 2 ++ (answered ws 0 0 4 4 ++ answered ws 1 1 2 2)))
    ((0 ∷ 2 ∷ 4 ∷ 0 ∷ 2 ∷ 2 ∷ 3 ∷ []) ++ ((0 ∷ 1 ∷ 1 ∷ 3 ∷ 4 ∷ 0 ∷ 0 ∷ 1 ∷ 1 ∷ []) ++ ((0 ∷ 1 ∷ 1 ∷ 3 ∷ 4 ∷ 2 ∷ 0 ∷ 3 ∷ 2 ∷ []) ++ (0 ∷ 1 ∷ 2 ∷ 1 ∷ 0 ∷ []))))
    -- no cell: no vertex either; and two vertices, no edge and no triangle
    ∷ example (let ws = load_words empty (replicate 6 7) in said ws 0 0 0 0 ∷ said ws 1 0 0 0 ∷ []) (17 ∷ 17 ∷ [])
    ∷ example (let ws = load_words (0x80 ∷ 0x02 ∷ 0x00 ∷ 0x00 ∷ []) (replicate 6 7) in said ws 0 0 0 1 ∷ said ws 0 1 1 0 ∷ said ws 0 2 1 0 ∷ said ws 1 0 0 0 ∷ []) (0 ∷ 19 ∷ 19 ∷ 17 ∷ [])
    -- a book that lies about edge 0 and about cell 0: Find says what is written, the engine goes by the cells
    ∷ example (map (found edited 1 0 0) (up_to 4) ++ map (said edited 1 0 0) (up_to 4)) (100 ∷ 0 ∷ 100 ∷ 0 ∷ 100 ∷ 100 ∷ 0 ∷ 0 ∷ [])
    ∷ example (map (found edited 2 1 0) (up_to 5) ++ map (said edited 2 1 0) (up_to 5)) (100 ∷ 100 ∷ 0 ∷ 100 ∷ 0 ∷ 100 ∷ 100 ∷ 100 ∷ 0 ∷ 0 ∷ [])
    -- a book that says that there are four edges: Find refuses the fifth, the engine knows it; and one that says six
    ∷ example (found liar 0 1 2 4 ∷ said liar 0 1 2 4 ∷ said liar 1 1 4 3 ∷ []) (19 ∷ 100 ∷ 100 ∷ [])
    ∷ example (found six 1 2 5 0 ∷ said six 1 2 5 0 ∷ found six 1 2 4 1 ∷ said six 1 2 4 1 ∷ []) (0 ∷ 17 ∷ 0 ∷ 100 ∷ [])
    ∷ example (said six 2 1 0 5 ∷ said six 2 1 0 4 ∷ []) (19 ∷ 0 ∷ [])
    -- no book; a spare bit, before a free word that is not 0; that word, before 12
    ∷ example (said [] 0 0 0 0 ∷ said (set unfree 0 0x80040011) 3 3 9 9 ∷ said unfree 3 0 9 9 ∷ said unfree 2 1 0 0 ∷ []) (10 ∷ 10 ∷ 11 ∷ 11 ∷ [])
    -- d over D, e over D, both, before 17 and 19; 17 before 19; 19
    ∷ example (said fresh 3 0 0 0 ∷ said fresh 0 3 0 0 ∷ said fresh 3 3 0 0 ∷ said fresh 3 2 9 9 ∷ said fresh 2 3 9 9 ∷ []) (12 ∷ 12 ∷ 12 ∷ 12 ∷ 12 ∷ [])
    ∷ example (said fresh 2 1 2 5 ∷ said fresh 2 1 2 4 ∷ said fresh 2 1 1 5 ∷ said fresh 2 1 1 4 ∷ []) (17 ∷ 17 ∷ 19 ∷ 100 ∷ [])
    ∷ []

pub plain-holds : all_of holds plain-examples ≡ true
unfolding opened holds sheet empty tetrahedron intervals liar fresh answered said found two less edited six unfree plain-examples
plain-holds = refl
