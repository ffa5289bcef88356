-- What salvage gives, as numbers.
use Rattle.std.specs.Prelude.{cond, List, [], ◌∷◌, ℕ}
use Rattle.salvaging.specs.declared.answers.Saved.{Saved}

-- what was saved, as numbers: the length written, the cells dropped, and 1 or 0 for spare bits, pad bits and a wrong length
unfoldable pub saved_given : Saved → List ℕ
saved_given s = s.length ∷ s.dropped ∷ cond s.spare 1 0 ∷ cond s.pad 1 0 ∷ cond s.wrong_length 1 0 ∷ []
