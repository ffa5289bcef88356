-- Document 02, "Say where the book is broken": what comes with refusal 11, the key of a relation and a position in it, offsets counted before indices.
use Rattle.std.specs.Prelude.{Bool, cond, not, ◌&&◌, ◌||◌, List, ℕ, zero, suc, ◌+◌, ◌-◌, ◌/◌, ◌%◌, length, get_or, drop, eqb, ltb, leb}
use Rattle.std.proofs.Math.Option.{Option, none, some}
use Rattle.rules.specs.Lists.{up_to, any_of, first_at, repeated}
use Rattle.rules.specs.Book.{dim, count, key, held, offset, total, row_of, rows_of}

-- ==== where a relation is seen to break a rule
-- at offset p: the first is not 0; a later one falls, or ends a row of d→0, d > 0, that has not d + 1 entries
unfoldable pub offset_bad : List ℕ → ℕ → ℕ → Bool
offset_bad ws k zero = not (eqb (offset ws k 0) 0)
offset_bad ws k (suc p) =
    ltb (offset ws k (suc p)) (offset ws k p)
    || (eqb (k % 4) 0 && ltb 0 k && not (eqb (offset ws k (suc p)) (offset ws k p + (k / 4 + 1))))

-- at place p of a row, where N_e is `bound`: the index is too large, or not above its predecessor
unfoldable pub word_bad : ℕ → List ℕ → ℕ → Bool
word_bad bound row p = leb bound (get_or row p 0) || (ltb 0 p && leb (get_or row p 0) (get_or row (p - 1) 0))

-- at place p of row i: such an index, or the first of a row of D→0 that equals an earlier one
unfoldable pub index_bad : List ℕ → ℕ → ℕ → ℕ → Bool
index_bad ws k i p = word_bad (count ws (k % 4)) (row_of ws k i) p || (eqb p 0 && eqb k (key (dim ws) 0) && repeated (rows_of ws k) i)

-- at some index of row i
unfoldable pub row_bad : List ℕ → ℕ → ℕ → Bool
row_bad ws k i = any_of (index_bad ws k i) (up_to (length (row_of ws k i)))

-- at some offset, or some index, of the relation of key k
unfoldable pub relation_bad : List ℕ → ℕ → Bool
relation_bad ws k = any_of (offset_bad ws k) (up_to (count ws (k / 4) + 1)) || any_of (row_bad ws k) (up_to (count ws (k / 4)))

-- the lowest position, offset i at i and index t at N_d + 1 + t: the first such offset; where there is none, the first such index of the first row that has one
unfoldable pub bad_place : List ℕ → ℕ → ℕ
bad_place ws k =
    let n = count ws (k / 4) in
    let p = first_at (offset_bad ws k) (up_to (n + 1)) in
    let i = first_at (row_bad ws k) (up_to n) in
    cond (leb p n) p (n + 1 + offset ws k i + first_at (index_bad ws k i) (up_to (length (row_of ws k i))))

-- position p is that of an index of row i, and the index is bad
unfoldable pub index_seen : List ℕ → ℕ → ℕ → ℕ → Bool
index_seen ws k p i =
    leb (count ws (k / 4) + 1 + offset ws k i) p && ltb p (count ws (k / 4) + 1 + offset ws k (i + 1))
    && index_bad ws k i (p - (count ws (k / 4) + 1 + offset ws k i))

-- something is bad at position p: `bad_place` is the lowest such
unfoldable pub seen_at : List ℕ → ℕ → ℕ → Bool
seen_at ws k p = cond (leb p (count ws (k / 4))) (offset_bad ws k p) (any_of (index_seen ws k p) (up_to (count ws (k / 4))))

-- ==== where the book is
-- the key of the first relation in book order that breaks a rule, else 16
unfoldable pub broken_key : List ℕ → ℕ
broken_key ws = first_at (λ k. held ws k && relation_bad ws k) (up_to 16)

-- the lowest position in it; with 16 the distance of the first nonzero free word from the used length
unfoldable pub broken_place : List ℕ → ℕ
broken_place ws = cond (ltb (broken_key ws) 16) (bad_place ws (broken_key ws)) (first_at (λ w. not (eqb 0 w)) (drop (get_or ws 4 0) ws))

-- some relation held breaks a rule, or some free word is not 0
unfoldable pub rows_broken : List ℕ → Bool
rows_broken ws = any_of (λ k. held ws k && relation_bad ws k) (up_to 16) || any_of (λ w. not (eqb 0 w)) (drop (get_or ws 4 0) ws)

-- nothing, or the key and the position
unfoldable pub broken_at : List ℕ → Option (ℕ × ℕ)
broken_at ws = cond (rows_broken ws) (some (broken_key ws, broken_place ws)) none

-- ==== what a call tells
-- which of row i's own two offsets is broken: offset i if it passes the total, else offset i + 1
unfoldable pub broken_offset : List ℕ → ℕ → ℕ → ℕ → ℕ
broken_offset ws d e i = cond (ltb (total ws (key d e)) (offset ws (key d e) i)) i (i + 1)

-- where Row finds them broken: the key of d→e, and that offset's position
unfoldable pub row_broken_at : List ℕ → ℕ → ℕ → ℕ → Option (ℕ × ℕ)
row_broken_at ws d e i = some (key d e, broken_offset ws d e i)

-- with number 11 a place comes, with any other nothing
unfoldable pub told : ℕ → Option (ℕ × ℕ) → Option (ℕ × ℕ)
told n place = cond (eqb n 11) place none
