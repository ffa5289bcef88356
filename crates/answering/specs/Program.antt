-- Document 01, "Examples by hand": all relations asked for by ascending key, and what dayreport prints for a file.
use Rattle.std.specs.Prelude.{Bool, cond, ◌&&◌, List, [], ◌∷◌, ℕ, ◌/◌, ◌%◌, length, eqb, ltb, leb}
use Rattle.rules.specs.Lists.{up_to, keep}
use Rattle.rules.specs.Book.{dim}
use Rattle.rules.specs.Calls.{load_number, load_words, ask_number, ask_words}
use Rattle.report.specs.Lines.{report, refused_line, too_long}

-- the key names only d and d' up to D
unfoldable pub within : ℕ → ℕ → Bool
within top k = leb (k / 4) top && leb (k % 4) top

-- the keys of all relations of a mesh, ascending
unfoldable pub keys_to : ℕ → List ℕ
keys_to top = keep (within top) (up_to 16)

-- asks for the relations of these keys in turn: the number of the first that is refused, 0 where none is
unfoldable pub asks_number : List ℕ → List ℕ → ℕ
asks_number [] ws = 0
asks_number (k ∷ ks) ws =
    let n = ask_number ws (k / 4) (k % 4) in
    cond (eqb n 0) (asks_number ks (ask_words ws (k / 4) (k % 4))) n

-- the book after them
unfoldable pub asks_words : List ℕ → List ℕ → List ℕ
asks_words [] ws = ws
asks_words (k ∷ ks) ws =
    let next = ask_words ws (k / 4) (k % 4) in
    cond (eqb (ask_number ws (k / 4) (k % 4)) 0) (asks_words ks next) next

-- the number of the first ask for all relations that is refused, 0 where none is
unfoldable pub all_number : List ℕ → ℕ
all_number ws = asks_number (keys_to (dim ws)) ws

-- the book after asks for all relations
unfoldable pub all_words : List ℕ → List ℕ
all_words ws = asks_words (keys_to (dim ws)) ws

-- a text, or on a refusal only "refused" and the number
unfoldable pub or_refused : ℕ → List ℕ → List ℕ
or_refused n text = cond (eqb n 0) text (refused_line n)

-- what dayreport prints for a file, from a book of these words
unfoldable pub printed : List ℕ → List ℕ → List ℕ
printed f ws =
    let loaded = load_words f ws in
    cond (ltb 2048 (length f)) too_long (or_refused (load_number f ws) (or_refused (all_number loaded) (report (all_words loaded))))

-- the book after it
unfoldable pub printed_from : List ℕ → List ℕ → List ℕ
printed_from f ws =
    let loaded = load_words f ws in
    cond (ltb 2048 (length f)) ws (cond (eqb (load_number f ws) 0) (all_words loaded) loaded)
