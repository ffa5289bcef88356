-- A row as the rules find it is the row found by its relation's place.
use mathlib.Core.Path.{◌≡◌, refl, ap, ◌∙◌}
use mathlib.Core.List.{List}
use Prim.Native.Nat.{ℕ, ◌/◌, ◌<◌}
use Rattle.rules.specs.Book.{count, key, place, offset, row_of}
use Rattle.rules.proofs.Needs.{key-div}
use Rattle.relations.specs.Words.{part, row_at}

-- a row of the book, found by its relation's place
row-at : (ws : List ℕ) (k : ℕ) → row_of ws k ≡ row_at ws (place ws k) (count ws (k / 4))
unfolding row_of row_at part offset
row-at ws k = refl

module _ (ws : List ℕ) where
  -- row i of d→e
  abbrev pub row_in : ℕ → ℕ → ℕ → List ℕ
  row_in d e = row_at ws (place ws (key d e)) (count ws d)

  pub row_is : (d e : ℕ) → e < 4 → row_of ws (key d e) ≡ row_in d e
  row_is d e h = row-at ws (key d e) ∙ ap (λ (n : ℕ). row_at ws (place ws (key d e)) (count ws n)) (key-div d e h)
