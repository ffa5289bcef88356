-- Document 01, "Calls": each call's refusals in their order, its number, and the words or bytes after it.
use Rattle.std.specs.Prelude.{Bool, true, false, cond, not, ◌&&◌, ◌||◌, List, [], ◌∷◌, ◌++◌, map, ℕ, zero, suc, ◌+◌, ◌-◌, ◌/◌, ◌%◌, ◌^◌, length, get_or, take, drop, eqb, ltb, leb, ℤ}
use Rattle.std.proofs.Math.IntN.{sub_ℕ}
use Rattle.rules.specs.Lists.{up_to, any_of, all_of, has, repeats, first_repeated, joined, sorted, first_at, filled, members_below}
use Rattle.rules.specs.File.{field, file_dim, file_vertices, file_cells, file_spare, length_of, cells_in_file, out_of, twice, pad_set, file_bytes}
use Rattle.rules.specs.Book.{dim, count, key, named, held, mentions, keys_held, place, offset, total, row_of, rows_of, relation, needs, frame_right, rows_right}
use Rattle.rules.specs.Made.{made}

-- ==== "Calls": the table
-- a line of the table: when it is given, and its number
pub record Rule {ℓ} (A : Type ℓ) : Type ℓ where
  pub broken : Bool
  pub answer : A

-- a line of the table, from its test and its number
abbrev pub rule : Bool → ℕ → Rule ℕ
rule b n = record { broken = b; answer = n }

-- the answer of the first rule that is broken, else a
unfoldable pub first_broken {ℓ} : {A : Type ℓ} → List (Rule A) → A → A
first_broken [] a = a
first_broken (r ∷ rs) a = cond r.broken r.answer (first_broken rs a)

-- ==== "Calls": Load
-- the words of an accepted file, without their free part: D→0 alone is held, each cell ascending
unfoldable pub loaded : List ℕ → List ℕ
loaded f =
    let cells = relation (map sorted (cells_in_file f)) in
    field f 0 32 ∷ (2 ^ key (file_dim f) 0) ∷ 0 ∷ 0 ∷ (5 + length cells) ∷ cells

-- the faults of a file: refusals 1 to 8, 23 where two cells have equal vertex sets, and 9
unfoldable pub file_rules : List ℕ → List (Rule ℕ)
file_rules f =
    rule (ltb (length f) 4) 1
    ∷ rule (eqb (file_dim f) 0) 2
    ∷ rule (ltb 8192 (file_vertices f)) 3
    ∷ rule (ltb 4096 (file_cells f)) 4
    ∷ rule (ltb 0 (file_spare f)) 5
    ∷ rule (not (eqb (length f) (length_of (file_dim f) (file_cells f)))) 6
    ∷ rule (any_of (out_of (file_vertices f)) (cells_in_file f)) 7
    ∷ rule (any_of twice (cells_in_file f)) 8
    ∷ rule (repeats (map sorted (cells_in_file f))) 23
    ∷ rule (pad_set f) 9
    ∷ []

-- the number of a file's first fault, 0 where it has none
unfoldable pub file_number : List ℕ → ℕ
file_number f = first_broken (file_rules f) 0

-- with 7 and 8: the number of the lowest cell with that fault; with 23: of the lowest cell that repeats an earlier one
unfoldable pub fault_cell : List ℕ → ℕ
fault_cell f =
    cond (eqb (file_number f) 7) (first_at (out_of (file_vertices f)) (cells_in_file f))
    (cond (eqb (file_number f) 8) (first_at twice (cells_in_file f)) (first_repeated (map sorted (cells_in_file f))))

-- Load's refusals: those of the file, then 13
unfoldable pub load_rules : List ℕ → List ℕ → List (Rule ℕ)
load_rules f ws = file_rules f ++ (rule (ltb (length ws) (length (loaded f))) 13 ∷ [])

-- Load's number, 0 where accepted
unfoldable pub load_number : List ℕ → List ℕ → ℕ
load_number f ws = first_broken (load_rules f ws) 0

-- the cell that comes with Load's number: with 7, 8 and 23 the lowest cell with that fault, else 0
unfoldable pub load_cell : List ℕ → List ℕ → ℕ
load_cell f ws = cond (eqb (load_number f ws) 7 || eqb (load_number f ws) 8 || eqb (load_number f ws) 23) (fault_cell f) 0

-- the book after Load: every word is set, or none
unfoldable pub load_words : List ℕ → List ℕ → List ℕ
load_words f ws = cond (eqb (load_number f ws) 0) (filled (length ws) (loaded f)) ws

-- ==== "Calls": Make
-- N_x once d→e is made with n rows, for x = 1, 2
unfoldable pub count_after : List ℕ → ℕ → ℕ → ℕ → ℕ → ℕ
count_after ws d e n x = cond (eqb e 0 && eqb d x && ltb d (dim ws)) n (get_or ws (1 + x) 0)

-- the words with d→e made and at its place, without their free part
unfoldable pub added : List ℕ → ℕ → ℕ → List ℕ
added ws d e =
    let k = key d e in
    let rows = made ws d e in
    let new = relation rows in
    let p = place ws k in
    let used = get_or ws 4 0 in
    get_or ws 0 0 ∷ (get_or ws 1 0 + 2 ^ k) ∷ count_after ws d e (length rows) 1 ∷ count_after ws d e (length rows) 2 ∷ (used + length new)
    ∷ (take (p - 5) (drop 5 ws) ++ (new ++ take (used - p) (drop p ws)))

-- "Give back room": N_x, 0 < x < D, is kept by some relation held, and the number of entities found for x→0 differs
unfoldable pub differs : List ℕ → ℕ → Bool
differs ws x = ltb 0 x && ltb x (dim ws) && mentions (held ws) x && not (eqb (length (made ws x 0)) (count ws x))

-- Make's refusals: 10, 11, 12, 14, 15, and 25 for d→0, then 13 (d→0 is not held where 25 is looked at, so what keeps N_d is another relation)
unfoldable pub make_rules : List ℕ → ℕ → ℕ → List (Rule ℕ)
make_rules ws d e =
    rule (not (frame_right ws)) 10
    ∷ rule (not (rows_right ws)) 11
    ∷ rule (ltb (dim ws) d || ltb (dim ws) e) 12
    ∷ rule (held ws (key d e)) 14
    ∷ rule (not (all_of (held ws) (needs (dim ws) d e))) 15
    ∷ rule (eqb e 0 && differs ws d) 25
    ∷ rule (ltb (length ws) (length (added ws d e))) 13
    ∷ []

-- Make's number, 0 where accepted
unfoldable pub make_number : List ℕ → ℕ → ℕ → ℕ
make_number ws d e = first_broken (make_rules ws d e) 0

-- the book after Make
unfoldable pub make_words : List ℕ → ℕ → ℕ → List ℕ
make_words ws d e = cond (eqb (make_number ws d e) 0) (filled (length ws) (added ws d e)) ws

-- ==== "Calls": Ask
-- the words after f for each key in turn
unfoldable pub through : (List ℕ → ℕ → List ℕ) → List ℕ → List ℕ → List ℕ
through f ws [] = ws
through f ws (k ∷ ks) = through f (f ws k) ks

-- the words, without their free part, with key k held: as they are where it is held, else with all that it is made from, and then with it; n bounds the depth
unfoldable pub with_key : ℕ → List ℕ → ℕ → List ℕ
with_key zero ws k = ws
with_key (suc n) ws k =
    elim (held ws k) [ true ↦ ws | false ↦ added (through (with_key n) ws (needs (dim ws) (k / 4) (k % 4))) (k / 4) (k % 4) ]

-- the words, without their free part, with d→e held and, as far as missing, everything it is made from
unfoldable pub asked : List ℕ → ℕ → ℕ → List ℕ
asked ws d e = with_key 6 (take (get_or ws 4 0) ws) (key d e)

-- "Give back room": the ask has to make x→0: it is not held, and is held afterwards
unfoldable pub has_to_make : List ℕ → ℕ → ℕ → ℕ → Bool
has_to_make ws d e x = not (held ws (key x 0)) && held (asked ws d e) (key x 0)

-- Ask's refusals: 10, 11, 12, and 25 for any x→0 that it has to make, then 13
unfoldable pub ask_rules : List ℕ → ℕ → ℕ → List (Rule ℕ)
ask_rules ws d e =
    rule (not (frame_right ws)) 10
    ∷ rule (not (rows_right ws)) 11
    ∷ rule (ltb (dim ws) d || ltb (dim ws) e) 12
    ∷ rule (any_of (λ x. has_to_make ws d e x && differs ws x) (up_to 3)) 25
    ∷ rule (ltb (length ws) (length (asked ws d e))) 13
    ∷ []

-- Ask's number, 0 where accepted
unfoldable pub ask_number : List ℕ → ℕ → ℕ → ℕ
ask_number ws d e = first_broken (ask_rules ws d e) 0

-- the book after Ask
unfoldable pub ask_words : List ℕ → ℕ → ℕ → List ℕ
ask_words ws d e = cond (eqb (ask_number ws d e) 0) (filled (length ws) (asked ws d e)) ws

-- ==== "A list of asks"
-- the numbers of one ask after another, for a list of d, e pairs, two numbers each
unfoldable pub answers_of : List ℕ → List ℕ → List ℕ
answers_of ws [] = []
answers_of ws (d ∷ []) = []
answers_of ws (d ∷ e ∷ ps) = ask_number ws d e ∷ answers_of (ask_words ws d e) ps

-- the book after one ask after another; a refused one does not stop the next
unfoldable pub words_of : List ℕ → List ℕ → List ℕ
words_of ws [] = ws
words_of ws (d ∷ []) = ws
words_of ws (d ∷ e ∷ ps) = words_of (ask_words ws d e) ps

-- whether p numbers of pairs and n answers are no list: half a pair, over 16 pairs, or not one place a pair
unfoldable pub pairs_off : ℕ → ℕ → Bool
pairs_off p n = eqb (p % 2) 1 || ltb 16 (p / 2) || not (eqb n (p / 2))

-- the list's refusal: 20 by its two lengths
unfoldable pub list_rules : List ℕ → List ℕ → List (Rule ℕ)
list_rules ps ns = rule (pairs_off (length ps) (length ns)) 20 ∷ []

-- the list's number, 0 where accepted
unfoldable pub list_number : List ℕ → List ℕ → ℕ
list_number ps ns = first_broken (list_rules ps ns) 0

-- the answers after the list: one number a pair, 0 where accepted
unfoldable pub list_answers : List ℕ → List ℕ → List ℕ → List ℕ
list_answers ws ps ns = cond (eqb (list_number ps ns) 0) (answers_of ws ps) ns

-- the book after the list
unfoldable pub list_words : List ℕ → List ℕ → List ℕ → List ℕ
list_words ws ps ns = cond (eqb (list_number ps ns) 0) (words_of ws ps) ws

-- ==== "Give back room": Drop
-- N_x once the mask names the relations that are left: kept while one of them names x, for x = 1, 2
unfoldable pub count_left : List ℕ → ℕ → ℕ → ℕ
count_left ws mask x = cond (ltb x (dim ws) && mentions (named mask) x) (get_or ws (1 + x) 0) 0

-- the words with d→e taken out and later relations moved down, without their free part
unfoldable pub dropped : List ℕ → ℕ → ℕ → List ℕ
dropped ws d e =
    let k = key d e in
    let mask = get_or ws 1 0 - 2 ^ k in
    let p = place ws k in
    let q = place ws (suc k) in
    let used = get_or ws 4 0 in
    get_or ws 0 0 ∷ mask ∷ count_left ws mask 1 ∷ count_left ws mask 2 ∷ (used - (q - p)) ∷ (take (p - 5) (drop 5 ws) ++ take (used - q) (drop q ws))

-- Drop's refusals: 10, 11, 12, 16, and 24 for D→0
unfoldable pub drop_rules : List ℕ → ℕ → ℕ → List (Rule ℕ)
drop_rules ws d e =
    rule (not (frame_right ws)) 10
    ∷ rule (not (rows_right ws)) 11
    ∷ rule (ltb (dim ws) d || ltb (dim ws) e) 12
    ∷ rule (not (held ws (key d e))) 16
    ∷ rule (eqb d (dim ws) && eqb e 0) 24
    ∷ []

-- Drop's number, 0 where accepted
unfoldable pub drop_number : List ℕ → ℕ → ℕ → ℕ
drop_number ws d e = first_broken (drop_rules ws d e) 0

-- the book after Drop: what is freed is zeroed
unfoldable pub drop_words : List ℕ → ℕ → ℕ → List ℕ
drop_words ws d e = cond (eqb (drop_number ws d e) 0) (filled (length ws) (dropped ws d e)) ws

-- ==== "Calls": Row
-- Row's refusals: 10, 12, 16, 17, and 11 where its own two offsets are not first ≤ second ≤ total
unfoldable pub row_rules : List ℕ → ℕ → ℕ → ℕ → List (Rule ℕ)
row_rules ws d e i =
    rule (not (frame_right ws)) 10
    ∷ rule (ltb (dim ws) d || ltb (dim ws) e) 12
    ∷ rule (not (held ws (key d e))) 16
    ∷ rule (leb (count ws d) i) 17
    ∷ rule (not (leb (offset ws (key d e) i) (offset ws (key d e) (i + 1)) && leb (offset ws (key d e) (i + 1)) (total ws (key d e)))) 11
    ∷ []

-- Row's number, 0 where accepted
unfoldable pub row_number : List ℕ → ℕ → ℕ → ℕ → ℕ
row_number ws d e i = first_broken (row_rules ws d e i) 0

-- the part of the book that Row hands back, empty on a refusal
unfoldable pub row_part : List ℕ → ℕ → ℕ → ℕ → List ℕ
row_part ws d e i = cond (eqb (row_number ws d e i) 0) (row_of ws (key d e) i) []

-- ==== "Is this point on that edge?": a search in a row
-- how many indices lead: those below j, up to the first that is not
unfoldable pub leading : ℕ → List ℕ → ℕ
leading j r = first_at (leb j) r

-- the one after them, if there is one
unfoldable pub following : ℕ → List ℕ → List ℕ
following j r = take 1 (drop (leading j r) r)

-- yes: this other one is j
unfoldable pub found_in : ℕ → List ℕ → Bool
found_in j r = has j (following j r)

-- the number of indices read: the leading ones, plus one if there is another after them
unfoldable pub read_in : ℕ → List ℕ → ℕ
read_in j r = leading j r + length (following j r)

-- Find's refusals: Row's, then 19
unfoldable pub find_rules : List ℕ → ℕ → ℕ → ℕ → ℕ → List (Rule ℕ)
find_rules ws d e i j = row_rules ws d e i ++ (rule (leb (count ws e) j) 19 ∷ [])

-- Find's number, 0 where accepted
unfoldable pub find_number : List ℕ → ℕ → ℕ → ℕ → ℕ → ℕ
find_number ws d e i j = first_broken (find_rules ws d e i j) 0

-- whether j is in row i of d→e, no on a refusal
unfoldable pub find_found : List ℕ → ℕ → ℕ → ℕ → ℕ → Bool
find_found ws d e i j = cond (eqb (find_number ws d e i j) 0) (found_in j (row_of ws (key d e) i)) false

-- how many indices were read, 0 on a refusal
unfoldable pub find_read : List ℕ → ℕ → ℕ → ℕ → ℕ → ℕ
find_read ws d e i j = cond (eqb (find_number ws d e i j) 0) (read_in j (row_of ws (key d e) i)) 0

-- ==== "Calls": Write
-- the bytes of the book's file: word 0, the vertices of D→0 with 13 bits each, zero bits to the end of the byte
unfoldable pub written : List ℕ → List ℕ
written ws = file_bytes (dim ws) (count ws (dim ws)) (get_or ws 0 0) (joined (rows_of ws (key (dim ws) 0)))

-- what an accepted Write gives: the file's length
unfoldable pub write_length : List ℕ → ℕ
write_length ws = length (written ws)

-- Write's refusals: 10, 11, 18
unfoldable pub write_rules : List ℕ → List ℕ → List (Rule ℕ)
write_rules ws bs =
    rule (not (frame_right ws)) 10
    ∷ rule (not (rows_right ws)) 11
    ∷ rule (ltb (length bs) (write_length ws)) 18
    ∷ []

-- Write's number, 0 where accepted
unfoldable pub write_number : List ℕ → List ℕ → ℕ
write_number ws bs = first_broken (write_rules ws bs) 0

-- the bytes after Write: later bytes are left as they were
unfoldable pub write_bytes : List ℕ → List ℕ → List ℕ
write_bytes ws bs = cond (eqb (write_number ws bs) 0) (written ws ++ drop (write_length ws) bs) bs

-- ==== "Calls": Euler number
-- Euler's refusals: 10, 11, and 15 where d→0 is not held for some 0 < d < D
unfoldable pub euler_rules : List ℕ → List (Rule ℕ)
euler_rules ws =
    rule (not (frame_right ws)) 10
    ∷ rule (not (rows_right ws)) 11
    ∷ rule ((ltb 1 (dim ws) && not (held ws (key 1 0))) || (ltb 2 (dim ws) && not (held ws (key 2 0)))) 15
    ∷ []

-- Euler's number, 0 where accepted
unfoldable pub euler_number : List ℕ → ℕ
euler_number ws = first_broken (euler_rules ws) 0

-- with v vertices, and n d for N_d: v − N_1 for D = 1, v − N_1 + N_2 for 2, v − N_1 + N_2 − N_3 for 3
unfoldable pub alternating : ℕ → ℕ → (ℕ → ℕ) → ℤ
alternating D v n = sub_ℕ (v + cond (leb 2 D) (n 2) 0) (n 1 + cond (leb 3 D) (n 3) 0)

-- ==== "The Euler number counts points nobody uses"
-- the vertices that lie in at least one cell, ascending
unfoldable pub used_vertices : List ℕ → List ℕ
used_vertices ws = members_below (count ws 0) (rows_of ws (key (dim ws) 0))

-- the Euler number: in it N_0 is the number of vertices that lie in at least one cell
unfoldable pub euler_of : List ℕ → ℤ
euler_of ws = alternating (dim ws) (length (used_vertices ws)) (count ws)

-- ==== "Calls": Held count
-- Held count's refusal: 10; the frame rule alone is checked
unfoldable pub held_rules : List ℕ → List (Rule ℕ)
held_rules ws = rule (not (frame_right ws)) 10 ∷ []

-- Held count's number, 0 where accepted
unfoldable pub held_number : List ℕ → ℕ
held_number ws = first_broken (held_rules ws) 0

-- the number of relations held
unfoldable pub held_count : List ℕ → ℕ
held_count ws = length (keys_held ws)

-- ==== lent places after a call
-- where the number is 0, `new` at the front of what was lent and the rest of that as it was; else all of it as it was
unfoldable pub at_front : ℕ → List ℕ → List ℕ → List ℕ
at_front n new lent = cond (eqb n 0) (new ++ drop (length new) lent) lent
