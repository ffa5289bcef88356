-- What a caller can plan by: each call's number, from the book's length, the mesh and the set of relations held alone. No word of a book is in it.
use Rattle.std.specs.Prelude.{cond, not, ◌&&◌, ◌||◌, List, [], ◌∷◌, ℕ, ◌+◌, ◌*◌, ◌^◌, length, eqb, ltb, leb, ℤ, Float}
use Rattle.std.specs.Float.Ieee.Scale.{finite}
use Rattle.rules.specs.Lists.{all_of}
use Rattle.rules.specs.File.{length_of}
use Rattle.rules.specs.Book.{key, named, needs}
use Rattle.rules.specs.Steps.{mask_with}
use Rattle.rules.specs.Calls.{Rule, rule, first_broken}
use Rattle.rules.specs.Phases.{counted}
use Rattle.rules.specs.Truth.{Mesh, number, true_book}

-- how many words the true relations that the mask names take, with the head
unfoldable pub words_for : Mesh → ℕ → ℕ
words_for m mask = length (true_book 0 m mask)

-- Make in a book of n words: 12 if d or e is over D, else 14 if held, else 15 if a need is missing, else 13 if the true book with it is longer than the book, else 0
unfoldable pub make_plan : ℕ → Mesh → ℕ → ℕ → ℕ → ℕ
make_plan n m mask d e =
    first_broken
    (rule (ltb m.dims d || ltb m.dims e) 12
    ∷ rule (named mask (key d e)) 14
    ∷ rule (not (all_of (named mask) (needs m.dims d e))) 15
    ∷ rule (ltb n (words_for m (mask + 2 ^ key d e))) 13
    ∷ [])
    0

-- Ask in a book of n words: 12 if d or e is over D, else 13 if the true book with it and what it is made from is longer than the book, else 0
unfoldable pub ask_plan : ℕ → Mesh → ℕ → ℕ → ℕ → ℕ
ask_plan n m mask d e =
    first_broken (rule (ltb m.dims d || ltb m.dims e) 12 ∷ rule (ltb n (words_for m (mask_with 6 m.dims mask (key d e)))) 13 ∷ []) 0

-- the relations held after an ask in a book of n words: with all that the ask makes where it is accepted, else as they were
unfoldable pub mask_after : ℕ → Mesh → ℕ → ℕ → ℕ → ℕ
mask_after n m mask d e = cond (eqb (ask_plan n m mask d e) 0) (mask_with 6 m.dims mask (key d e)) mask

-- the answers of a list of asks in a book of n words: as Ask for each pair, with the relations that are held by then
unfoldable pub answers_plan : ℕ → Mesh → ℕ → List ℕ → List ℕ
answers_plan n m mask [] = []
answers_plan n m mask (d ∷ []) = []
answers_plan n m mask (d ∷ e ∷ ps) = ask_plan n m mask d e ∷ answers_plan n m (mask_after n m mask d e) ps

-- Drop: 12 if d or e is over D, else 16 if d→e is not held, else 24 if it is D→0, else 0
unfoldable pub drop_plan : Mesh → ℕ → ℕ → ℕ → ℕ
drop_plan m mask d e =
    first_broken (rule (ltb m.dims d || ltb m.dims e) 12 ∷ rule (not (named mask (key d e))) 16 ∷ rule (eqb d m.dims && eqb e 0) 24 ∷ []) 0

-- Row: 12 if d or e is over D, else 16 if d→e is not held, else 17 if there is no entity (d, i), else 0
unfoldable pub row_plan : Mesh → ℕ → ℕ → ℕ → ℕ → ℕ
row_plan m mask d e i =
    first_broken (rule (ltb m.dims d || ltb m.dims e) 12 ∷ rule (not (named mask (key d e))) 16 ∷ rule (leb (number m d) i) 17 ∷ []) 0

-- Find: as Row; where Row would accept, 19 if there is no entity (e, j), else 0
unfoldable pub find_plan : Mesh → ℕ → ℕ → ℕ → ℕ → ℕ → ℕ
find_plan m mask d e i j =
    let n = row_plan m mask d e i in
    cond (eqb n 0) (first_broken (rule (leb (number m e) j) 19 ∷ []) 0) n

-- Write to n bytes: 18 if the mesh's file is longer, else 0
unfoldable pub write_plan : ℕ → Mesh → ℕ
write_plan n m = first_broken (rule (ltb n (length_of m.dims (length m.cells))) 18 ∷ []) 0

-- Euler: 15 if d→0 is not held for some 0 < d < D, else 0
unfoldable pub euler_plan : Mesh → ℕ → ℕ
euler_plan m mask =
    first_broken (rule ((ltb 1 m.dims && not (named mask (key 1 0))) || (ltb 2 m.dims && not (named mask (key 2 0)))) 15 ∷ []) 0

-- phase closures, for lists of these lengths: 12 if D is 1, else 15 if 1→0 or 2→0 is not held, else 21 if a list is not one place a vertex, face or edge, else 22 if a count may not be lent, else 0
unfoldable pub close_plan : Mesh → ℕ → List ℤ → ℕ → ℕ → ℕ → ℕ
close_plan m mask counts closures steps bytes =
    first_broken
    (rule (eqb m.dims 1) 12
    ∷ rule (not (named mask (key 1 0) && named mask (key 2 0))) 15
    ∷ rule (not (eqb (length counts) (number m 0) && (eqb closures (number m 2) && (eqb steps (number m 1) && eqb bytes (number m 1))))) 21
    ∷ rule (not (all_of counted counts)) 22
    ∷ [])
    0

-- lent coordinates: 26 if the axes are neither 2 nor 3, else 21 if there is not one float for each axis of each vertex, else 27 if one is infinite or not a number
unfoldable pub coordinate_plan : Mesh → List Float → ℕ → List (Rule ℕ)
coordinate_plan m coordinates axes =
    rule (not (eqb axes 2 || eqb axes 3)) 26
    ∷ rule (not (eqb (length coordinates) (axes * number m 0))) 21
    ∷ rule (not (all_of finite coordinates)) 27
    ∷ []

-- the box of (d, i): 12 if d is over D, else 15 if d is over 0 and d→0 is not held, else 17 if there is no entity (d, i), else as the lent coordinates
unfoldable pub box_plan : Mesh → ℕ → List Float → ℕ → ℕ → ℕ → ℕ
box_plan m mask coordinates axes d i =
    first_broken
    (rule (ltb m.dims d) 12
    ∷ rule (ltb 0 d && not (named mask (key d 0))) 15
    ∷ rule (leb (number m d) i) 17
    ∷ coordinate_plan m coordinates axes)
    0

-- the box of the whole mesh: as the lent coordinates
unfoldable pub whole_plan : Mesh → List Float → ℕ → ℕ
whole_plan m coordinates axes = first_broken (coordinate_plan m coordinates axes) 0

-- a plain engine: 12 if d or e is over D, else 17 if there is no entity (d, i), else 19 if there is no entity (e, j), else 0, whatever is held
unfoldable pub plain_plan : Mesh → ℕ → ℕ → ℕ → ℕ → ℕ
plain_plan m d e i j =
    first_broken (rule (ltb m.dims d || ltb m.dims e) 12 ∷ rule (leb (number m d) i) 17 ∷ rule (leb (number m e) j) 19 ∷ []) 0
