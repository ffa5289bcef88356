-- A relation of a right book by its words: offsets and indices lie within the book, and are what its rows say.
use mathlib.Core.Path.{◌≡◌, ap, ap₂, ◌∙◌}
use mathlib.Core.List.{List}
use Prim.Native.Nat.{ℕ, ◌+◌, ◌-◌, ◌/◌, ◌≤◌, ◌<◌}
use native.Mathlib.Omega.{arith}
use lib.ListN.{length, get_or, take, drop}
use Rattle.rules.specs.Book.{count, offset, row_start, row_of}
use Rattle.rules.proofs.FrameRule.{Framed, framed, room}
use Rattle.rules.proofs.RowRule.{offset-rises, offset-total}
use Rattle.sheets.specs.declared.stands.Stand.{Stand}
use Rattle.sheets.specs.Stands.{Stands}

module _ (ws : List ℕ) (at : Stand) (s : Stands ws at) where
  f : Framed ws
  f = framed ws s.frame

  abbrev n : ℕ
  n = count ws (at.key / 4)

  offset_word : (i : ℕ) → get_or ws (at.offsets.0 + i) 0 ≡ offset ws at.key i
  unfolding offset
  offset_word i = ap (λ (p : ℕ). get_or ws (p + i) 0) s.offsets

  next_word : (i : ℕ) → get_or ws (at.offsets.0 + i + 1) 0 ≡ offset ws at.key (i + 1)
  next_word i = ap (λ (p : ℕ). get_or ws p 0) (omega arith) ∙ offset_word (i + 1)

  module _ (i : ℕ) (l : i < n) where
    pub words_inside : at.offsets.0 + i + 1 < length ws
    words_inside = omega (arith, s.offsets, room ws f at.key s.holds, f.fits)

    pub words-rise : get_or ws (at.offsets.0 + i) 0 ≤ get_or ws (at.offsets.0 + i + 1) 0
    words-rise = omega (arith, offset_word i, next_word i, offset-rises ws f s.rows at.key s.holds i (i + 1) (omega arith) (omega arith))

    pub row-end : at.indices.0 + get_or ws (at.offsets.0 + i + 1) 0 ≤ length ws
    row-end = omega (arith, s.indices, next_word i, offset-total ws f s.rows at.key s.holds (i + 1) (omega arith), room ws f at.key s.holds, f.fits)

    pub row_words : take (at.indices.0 + get_or ws (at.offsets.0 + i + 1) 0 - (at.indices.0 + get_or ws (at.offsets.0 + i) 0)) (drop (at.indices.0 + get_or ws (at.offsets.0 + i) 0) ws) ≡ row_of ws at.key i
    unfolding row_of row_start
    row_words = ap₂ (λ (n p : ℕ). take n (drop p ws)) (omega (arith, next_word i, offset_word i)) (omega (arith, s.indices, offset_word i))
