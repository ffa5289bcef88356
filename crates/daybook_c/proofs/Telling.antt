-- What a refusal tells is what the call's number asks for: the place with 11, and with any other number what was there.
use mathlib.Core.Path.{◌≡◌, refl, sym, ap, ◌∙◌}
use mathlib.Core.Bool.{cond, ◌||◌}
use mathlib.Core.List.{List}
use mathlib.Core.Option.{Option, none, some}
use Prim.Native.Nat.{ℕ}
use lib.Dec.{eqb}
use borrow.Author.Tests.{eq-eqb}
use Rattle.rules.specs.Book.{key}
use Rattle.rules.specs.Broken.{broken_key, broken_place, broken_offset, broken_at, row_broken_at, told}
use Rattle.rules.proofs.Told.{told-place, told-row}
use Rattle.kinds.specs.declared.refusals.Refusal.{Refusal}
use Rattle.rules.specs.Calls.{load_number, load_cell, fault_cell}
use Rattle.kinds.specs.declared.refusals.Refusal.TheVariants as refusals
use Rattle.kinds.specs.Refusals.{refusal_number, refusal_place, refusal_cell}
use Rattle.daybook_c.proofs.Given.{cell-given}
use Rattle.kinds.proofs.Determined.{Where, nowhere, there, where_told}
use Rattle.daybook_c.specs.Told.{key_or, position_or, cell_or}

module _ (r : Refusal) (n m : ℕ) (e : m ≡ refusal_number r) (q : refusal_number r ≡ n) where
  -- where the book is broken
  module _ (ws : List ℕ) (p : refusal_place r ≡ told n (broken_at ws)) (old : ℕ) where
    pub book-key : key_or (refusal_place r) old ≡ cond (eqb m 11) (broken_key ws) old
    book-key = go (where_told r)
      where
        go : Where r → key_or (refusal_place r) old ≡ cond (eqb m 11) (broken_key ws) old
        go (nowhere a b) = rw (a, e, b)
        go (there b a h) = rw (a, e, sym h) ((told-place ws n b (h ∙ q) (sym a ∙ p)).0)

    pub book-position : position_or (refusal_place r) old ≡ cond (eqb m 11) (broken_place ws) old
    book-position = go (where_told r)
      where
        go : Where r → position_or (refusal_place r) old ≡ cond (eqb m 11) (broken_place ws) old
        go (nowhere a b) = rw (a, e, b)
        go (there b a h) = rw (a, e, sym h) ((told-place ws n b (h ∙ q) (sym a ∙ p)).1)

  -- where the row is broken
  module _ (ws : List ℕ) (d d' i : ℕ) (p : refusal_place r ≡ told n (row_broken_at ws d d' i)) (old : ℕ) where
    pub row-key : key_or (refusal_place r) old ≡ cond (eqb m 11) (key d d') old
    row-key = go (where_told r)
      where
        go : Where r → key_or (refusal_place r) old ≡ cond (eqb m 11) (key d d') old
        go (nowhere a b) = rw (a, e, b)
        go (there b a h) = rw (a, e, sym h) ((told-row ws d d' i n b (h ∙ q) (sym a ∙ p)).0)

    pub row-position : position_or (refusal_place r) old ≡ cond (eqb m 11) (broken_offset ws d d' i) old
    row-position = go (where_told r)
      where
        go : Where r → position_or (refusal_place r) old ≡ cond (eqb m 11) (broken_offset ws d d' i) old
        go (nowhere a b) = rw (a, e, b)
        go (there b a h) = rw (a, e, sym h) ((told-row ws d d' i n b (h ∙ q) (sym a ∙ p)).1)

-- the cell
pub file-cell : (r : Refusal) (n : ℕ) → n ≡ refusal_number r → (f ws : List ℕ) → refusal_number r ≡ load_number f ws → refusal_cell r ≡ load_cell f ws → (old : ℕ)
    → cell_or r old ≡ cond (eqb n 7 || eqb n 8 || eqb n 23) (fault_cell f) old
file-cell refusals.FileTooShort n e f ws q p old = rw e
file-cell refusals.NoDimension n e f ws q p old = rw e
file-cell refusals.ManyVertices n e f ws q p old = rw e
file-cell refusals.ManyCells n e f ws q p old = rw e
file-cell refusals.SpareBits n e f ws q p old = rw e
file-cell refusals.FileLength n e f ws q p old = rw e
file-cell (refusals.VertexOut c) n e f ws q p old = rw e (p ∙ cell-given f ws 7 (sym q) refl)
file-cell (refusals.VertexTwice c) n e f ws q p old = rw e (p ∙ cell-given f ws 8 (sym q) refl)
file-cell refusals.BitsAfter n e f ws q p old = rw e
file-cell refusals.FrameBroken n e f ws q p old = rw e
file-cell (refusals.RowsBroken b) n e f ws q p old = rw e
file-cell refusals.DimensionOver n e f ws q p old = rw e
file-cell refusals.NoRoom n e f ws q p old = rw e
file-cell refusals.AlreadyHeld n e f ws q p old = rw e
file-cell refusals.NeedMissing n e f ws q p old = rw e
file-cell refusals.NotHeld n e f ws q p old = rw e
file-cell refusals.NoSuchEntity n e f ws q p old = rw e
file-cell refusals.BufferTooShort n e f ws q p old = rw e
file-cell refusals.NoSuchIndex n e f ws q p old = rw e
file-cell refusals.PairsOff n e f ws q p old = rw e
file-cell refusals.ListLength n e f ws q p old = rw e
file-cell refusals.CountOutside n e f ws q p old = rw e
file-cell (refusals.CellTwice c) n e f ws q p old = rw e (p ∙ cell-given f ws 23 (sym q) refl)
file-cell refusals.CellsKept n e f ws q p old = rw e
file-cell refusals.NumberDiffers n e f ws q p old = rw e
file-cell refusals.AxisCount n e f ws q p old = rw e
file-cell refusals.NotFinite n e f ws q p old = rw e
file-cell (refusals.NotSheet w) n e f ws q p old = rw e
file-cell refusals.LongRim n e f ws q p old = rw e
