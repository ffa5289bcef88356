-- Document 01, "The day file": its bit fields, its cells and its faults; a file is a list of bytes.
use Rattle.std.specs.Prelude.{Bool, false, cond, ◌&&◌, ◌||◌, List, [], ◌∷◌, ◌++◌, map, ℕ, zero, suc, ◌+◌, ◌-◌, ◌*◌, ◌/◌, ◌%◌, ◌^◌, length, get_or, drop, eqb, ltb, leb}
use Rattle.rules.specs.Lists.{up_to, any_of, has, joined}

-- ==== "The day file": bit fields, most significant bit first
-- bit i of the file, the most significant bit of each byte first
unfoldable pub bit_at : List ℕ → ℕ → ℕ
bit_at f i = get_or f (i / 8) 0 / 2 ^ (7 - i % 8) % 2

-- the w bits from bit i on, as a number
unfoldable pub field : List ℕ → ℕ → ℕ → ℕ
field f i zero = 0
field f i (suc w) = 2 * field f i w + bit_at f (i + w)

-- D, 2 bits
unfoldable pub file_dim : List ℕ → ℕ
file_dim f = field f 0 2

-- N_0, 14 bits
unfoldable pub file_vertices : List ℕ → ℕ
file_vertices f = field f 2 14

-- N_D, 13 bits
unfoldable pub file_cells : List ℕ → ℕ
file_cells f = field f 16 13

-- the 3 spare bits
unfoldable pub file_spare : List ℕ → ℕ
file_spare f = field f 29 3

-- cell c as the file has it: D + 1 vertex numbers of 13 bits each
unfoldable pub file_cell : List ℕ → ℕ → List ℕ
file_cell f c = map (λ k. field f (32 + 13 * ((file_dim f + 1) * c + k)) 13) (up_to (file_dim f + 1))

-- all cells in file order
unfoldable pub cells_in_file : List ℕ → List (List ℕ)
cells_in_file f = map (file_cell f) (up_to (file_cells f))

-- the number of bits before the zero bits at the end, for D and N_D
unfoldable pub bits_of : ℕ → ℕ → ℕ
bits_of D n = 32 + 13 * (D + 1) * n

-- the file's length in bytes, for D and N_D: 4 + ceil(13·(D+1)·N_D / 8)
unfoldable pub length_of : ℕ → ℕ → ℕ
length_of D n = 4 + (13 * (D + 1) * n + 7) / 8

-- ==== "Calls": what refusals 7, 8 and 9 look for
-- some vertex of the cell is n or more
unfoldable pub out_of : ℕ → List ℕ → Bool
out_of n c = any_of (λ v. leb n v) c

-- the cell names a vertex twice
unfoldable pub twice : List ℕ → Bool
twice [] = false
twice (v ∷ vs) = has v vs || twice vs

-- some bit after the last vertex is set
unfoldable pub pad_set : List ℕ → Bool
pad_set f = any_of (λ k. eqb (bit_at f (bits_of (file_dim f) (file_cells f) + k)) 1) (up_to (8 * length f - bits_of (file_dim f) (file_cells f)))

-- ==== "The day file", written
-- x as w bits, the most significant first
unfoldable pub bits_in : ℕ → ℕ → List ℕ
bits_in zero x = []
bits_in (suc w) x = (x / 2 ^ w % 2) ∷ bits_in w x

-- the first eight bits as a byte; a bit that is not there is 0
unfoldable pub byte_of : List ℕ → ℕ
byte_of bs = 128 * get_or bs 0 0 + 64 * get_or bs 1 0 + 32 * get_or bs 2 0 + 16 * get_or bs 3 0 + 8 * get_or bs 4 0 + 4 * get_or bs 5 0 + 2 * get_or bs 6 0 + get_or bs 7 0

-- the bits as n bytes, with zero bits at the end
unfoldable pub packed : ℕ → List ℕ → List ℕ
packed zero bs = []
packed (suc n) bs = byte_of bs ∷ packed n (drop 8 bs)

-- the bytes of a file, from D, N_D, its first 32 bits as a number, and the vertex numbers of its cells
unfoldable pub file_bytes : ℕ → ℕ → ℕ → List ℕ → List ℕ
file_bytes D n h vs = packed (length_of D n) (bits_in 32 h ++ joined (map (bits_in 13) vs))

-- bit p of the bytes once the w low bits of x stand from bit i on
unfoldable pub bit_with : List ℕ → ℕ → ℕ → ℕ → ℕ → ℕ
bit_with bs i w x p = cond (leb i p && ltb p (i + w)) (x / 2 ^ (i + w - suc p) % 2) (bit_at bs p)

-- the bytes with the w low bits of x from bit i on, and every other bit as it was
unfoldable pub with_field : List ℕ → ℕ → ℕ → ℕ → List ℕ
with_field bs i w x = packed (length bs) (map (bit_with bs i w x) (up_to (8 * length bs)))

-- ==== "The day file": its first 32 bits as a number
-- D
unfoldable pub head_dim : ℕ → ℕ
head_dim h = h / 2 ^ 30

-- N_0
unfoldable pub head_vertices : ℕ → ℕ
head_vertices h = h / 2 ^ 16 % 2 ^ 14

-- N_D
unfoldable pub head_cells : ℕ → ℕ
head_cells h = h / 2 ^ 3 % 2 ^ 13

-- the 3 spare bits
unfoldable pub head_spare : ℕ → ℕ
head_spare h = h % 2 ^ 3

-- the length of the file that begins so
unfoldable pub head_length : ℕ → ℕ
head_length h = length_of (head_dim h) (head_cells h)

-- the bytes with that file, of those vertices, at their front, and later bytes as they were; as they were where they have no room for it
unfoldable pub put_file : ℕ → List ℕ → List ℕ → List ℕ
put_file h vs bs = cond (leb (head_length h) (length bs)) (file_bytes (head_dim h) (head_cells h) h vs ++ drop (head_length h) bs) bs
