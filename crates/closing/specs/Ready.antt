-- What the loops of the call need.
use Rattle.std.specs.Prelude.{◌≡◌, true, List, ℕ, ◌/◌, length, ℤ}
use Rattle.rules.specs.Lists.{all_of}
use Rattle.rules.specs.Book.{count, held, frame_right, rows_right}
use Rattle.rules.specs.Phases.{counted}

-- the book is right and holds the relation of key k, with n rows, and the counts are one a vertex and may all be lent
pub record Ready (ws : List ℕ) (k : ℕ) (counts : List ℤ) (n : ℕ) : Type 0 where
  pub frame : frame_right ws ≡ true
  pub rows : rows_right ws ≡ true
  pub holds : held ws k ≡ true
  pub sized : length counts ≡ count ws 0
  pub right : all_of counted counts ≡ true
  pub many : n ≡ count ws (k / 4)
