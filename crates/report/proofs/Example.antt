-- Document 01, "Examples by hand": the text that dayreport prints for T, whole, by computation.
use mathlib.Core.Path.{◌≡◌, refl}
use mathlib.Core.List.{List, [], ◌∷◌}
use Prim.Native.Nat.{ℕ}
use Rattle.rules.proofs.Opened.{opened}
use Rattle.report.specs.Lines.{digits_in, digits, spaced, line, mesh_line, relation_line, report}

-- the book of T with all nine relations: its head, then each relation by ascending key
unfoldable pub book_of_t : List ℕ
book_of_t =
    2147745808 ∷ 1911 ∷ 5 ∷ 0 ∷ 119 ∷
    0 ∷ 2 ∷ 5 ∷ 7 ∷ 10 ∷ 1 ∷ 3 ∷ 0 ∷ 2 ∷ 3 ∷ 1 ∷ 3 ∷ 0 ∷ 1 ∷ 2 ∷
    0 ∷ 2 ∷ 5 ∷ 7 ∷ 10 ∷ 0 ∷ 1 ∷ 0 ∷ 2 ∷ 3 ∷ 3 ∷ 4 ∷ 1 ∷ 2 ∷ 4 ∷
    0 ∷ 1 ∷ 3 ∷ 4 ∷ 6 ∷ 0 ∷ 0 ∷ 1 ∷ 1 ∷ 0 ∷ 1 ∷
    0 ∷ 2 ∷ 4 ∷ 6 ∷ 8 ∷ 10 ∷ 0 ∷ 1 ∷ 0 ∷ 3 ∷ 1 ∷ 3 ∷ 1 ∷ 2 ∷ 2 ∷ 3 ∷
    0 ∷ 3 ∷ 6 ∷ 10 ∷ 13 ∷ 16 ∷ 1 ∷ 2 ∷ 3 ∷ 0 ∷ 2 ∷ 4 ∷ 0 ∷ 1 ∷ 3 ∷ 4 ∷ 0 ∷ 2 ∷ 4 ∷ 1 ∷ 2 ∷ 3 ∷
    0 ∷ 1 ∷ 2 ∷ 4 ∷ 5 ∷ 6 ∷ 0 ∷ 0 ∷ 0 ∷ 1 ∷ 1 ∷ 1 ∷
    0 ∷ 3 ∷ 6 ∷ 0 ∷ 1 ∷ 3 ∷ 1 ∷ 2 ∷ 3 ∷
    0 ∷ 3 ∷ 6 ∷ 0 ∷ 1 ∷ 2 ∷ 2 ∷ 3 ∷ 4 ∷
    0 ∷ 1 ∷ 2 ∷ 1 ∷ 0 ∷
    []

-- the text for T, line by line
unfoldable pub text_of_t : List ℕ
text_of_t =
    109 ∷ 101 ∷ 115 ∷ 104 ∷ 32 ∷ 50 ∷ 32 ∷ 52 ∷ 32 ∷ 53 ∷ 32 ∷ 50 ∷ 10 ∷
    48 ∷ 32 ∷ 48 ∷ 32 ∷ 52 ∷ 32 ∷ 49 ∷ 48 ∷ 10 ∷
    48 ∷ 32 ∷ 49 ∷ 32 ∷ 52 ∷ 32 ∷ 49 ∷ 48 ∷ 10 ∷
    48 ∷ 32 ∷ 50 ∷ 32 ∷ 52 ∷ 32 ∷ 54 ∷ 10 ∷
    49 ∷ 32 ∷ 48 ∷ 32 ∷ 53 ∷ 32 ∷ 49 ∷ 48 ∷ 10 ∷
    49 ∷ 32 ∷ 49 ∷ 32 ∷ 53 ∷ 32 ∷ 49 ∷ 54 ∷ 10 ∷
    49 ∷ 32 ∷ 50 ∷ 32 ∷ 53 ∷ 32 ∷ 54 ∷ 10 ∷
    50 ∷ 32 ∷ 48 ∷ 32 ∷ 50 ∷ 32 ∷ 54 ∷ 10 ∷
    50 ∷ 32 ∷ 49 ∷ 32 ∷ 50 ∷ 32 ∷ 54 ∷ 10 ∷
    50 ∷ 32 ∷ 50 ∷ 32 ∷ 50 ∷ 32 ∷ 50 ∷ 10 ∷
    []

pub report-of-T : report book_of_t ≡ text_of_t
unfolding opened digits_in digits spaced line mesh_line relation_line report book_of_t text_of_t
report-of-T = refl
