-- Document 01, "Examples by hand": the lines that dayreport prints for a book, on a refusal and on a file that is too long; a text is a list of bytes.
use Rattle.std.specs.Prelude.{cond, List, [], ◌∷◌, ◌++◌, map, ℕ, zero, suc, ◌+◌, ◌/◌, ◌%◌, ltb}
use Rattle.rules.specs.Lists.{up_to, joined}
use Rattle.rules.specs.Book.{dim, count, keys_held, total}

-- the decimal digits of n, where it has at most m + 1
unfoldable pub digits_in : ℕ → ℕ → List ℕ
digits_in zero n = (48 + n % 10) ∷ []
digits_in (suc m) n = cond (ltb n 10) ((48 + n) ∷ []) (digits_in m (n / 10) ++ ((48 + n % 10) ∷ []))

-- the number n in decimal, without leading zeros: 0 is "0"
unfoldable pub digits : ℕ → List ℕ
digits n = digits_in n n

-- each field after one space
unfoldable pub spaced : List (List ℕ) → List ℕ
spaced [] = []
spaced (f ∷ fs) = (32 ∷ f) ++ spaced fs

-- a line: one space parts the fields, and a newline ends it
unfoldable pub line : List (List ℕ) → List ℕ
line [] = 10 ∷ []
line (f ∷ fs) = f ++ (spaced fs ++ (10 ∷ []))

-- "mesh", then D and N_0 to N_D
unfoldable pub mesh_line : List ℕ → List ℕ
mesh_line ws = line ((109 ∷ 101 ∷ 115 ∷ 104 ∷ []) ∷ digits (dim ws) ∷ map (λ d. digits (count ws d)) (up_to (dim ws + 1)))

-- for the relation d→d' of key k: d, d', N_d, number of indices
unfoldable pub relation_line : List ℕ → ℕ → List ℕ
relation_line ws k = line (digits (k / 4) ∷ digits (k % 4) ∷ digits (count ws (k / 4)) ∷ digits (total ws k) ∷ [])

-- all that is printed for a book: the mesh, then each relation held by ascending key
unfoldable pub report : List ℕ → List ℕ
report ws = mesh_line ws ++ joined (map (relation_line ws) (keys_held ws))

-- "refused" and the number
unfoldable pub refused_line : ℕ → List ℕ
refused_line n = line ((114 ∷ 101 ∷ 102 ∷ 117 ∷ 115 ∷ 101 ∷ 100 ∷ []) ∷ digits n ∷ [])

-- "too long"
unfoldable pub too_long : List ℕ
too_long = line ((116 ∷ 111 ∷ 111 ∷ []) ∷ (108 ∷ 111 ∷ 110 ∷ 103 ∷ []) ∷ [])
