-- The refusals that a book's words decide: 10 where the frame rule is broken, else 11 where the row rule is.
use Rattle.std.specs.Prelude.{not, List, [], ◌∷◌, ℕ}
use Rattle.rules.specs.Book.{frame_right, rows_right}
use Rattle.rules.specs.Calls.{rule, first_broken}

-- 10, 11 or 0
unfoldable pub right_number : List ℕ → ℕ
right_number ws = first_broken (rule (not (frame_right ws)) 10 ∷ rule (not (rows_right ws)) 11 ∷ []) 0
