-- Rows of one size, as they stand one after another among the words.
use Rattle.std.specs.Prelude.{◌≡◌, true, List, [], ◌∷◌, ℕ, ◌+◌, ◌*◌, length, get_or, ltb, ℤ}
use Rattle.rules.specs.Lists.{all_of}
use Rattle.rules.specs.Phases.{counted}

-- row i of rows of two, and of rows of three
unfoldable pub pair_at : List ℕ → ℕ → List ℕ
pair_at words i = get_or words (2 * i) 0 ∷ get_or words (2 * i + 1) 0 ∷ []

unfoldable pub triple_at : List ℕ → ℕ → List ℕ
triple_at words i = get_or words (3 * i) 0 ∷ get_or words (3 * i + 1) 0 ∷ get_or words (3 * i + 2) 0 ∷ []

-- the words are n rows of a size, each word the number of a count, and each count may be lent
pub record Rowed (size n : ℕ) (words : List ℕ) (counts : List ℤ) : Type 0 where
  pub sized : length words ≡ size * n
  pub inside : all_of (λ v. ltb v (length counts)) words ≡ true
  pub right : all_of counted counts ≡ true
