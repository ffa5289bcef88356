-- The words for people by hand: whole lines, by computation.
use mathlib.Core.Path.{◌≡◌, refl}
use mathlib.Core.Bool.{true, false}
use mathlib.Core.List.{[], ◌∷◌}
use Rattle.report.specs.Lines.{digits_in, digits}
use Rattle.telling.specs.Words.{bytes_of, reason, cells_named, run_line, length_line, kept_line, meaning, refusal_line}
use Rattle.telling.specs.Runs.{goes_on, run_size, run_text}
use Rattle.telling.specs.Program.{only_if, last_words}

-- T without its last byte: one cell is cut off
pub cut-cell : run_text (1 ∷ 6 ∷ []) ≡ bytes_of "cell 1: dropped, not whole in the file (6)\n"
unfolding digits_in digits bytes_of reason cells_named run_line goes_on run_size run_text
cut-cell = refl

pub cut-words : last_words (record { number = 0; length = 9; cells = 2; kept = 1; dropped = 1; spare = false; pad = false; wrong_length = true })
    ≡ bytes_of "the length was not the one that the header asks\nkept 1 of 2 cells, 9 bytes written\n"
unfolding digits_in digits bytes_of length_line kept_line only_if last_words
cut-words = refl

-- a run ends before a cell that was kept, and before another reason
pub run-to-a-gap : run_text (4 ∷ 23 ∷ 5 ∷ 23 ∷ 7 ∷ 23 ∷ []) ≡ bytes_of "cells 4 to 5: dropped, equal to an earlier cell (23)\n"
unfolding digits_in digits bytes_of reason cells_named run_line goes_on run_size run_text
run-to-a-gap = refl

pub run-to-another : run_text (9 ∷ 7 ∷ 10 ∷ 7 ∷ 11 ∷ 7 ∷ 12 ∷ 8 ∷ []) ≡ bytes_of "cells 9 to 11: dropped, a vertex out of range (7)\n"
unfolding digits_in digits bytes_of reason cells_named run_line goes_on run_size run_text
run-to-another = refl

-- a refusal
pub refused-words : last_words (record { number = 2; length = 10; cells = 0; kept = 0; dropped = 0; spare = false; pad = false; wrong_length = false })
    ≡ bytes_of "refused: D is 0\n"
unfolding bytes_of meaning refusal_line only_if last_words
refused-words = refl
