-- What a refusal means: the documents' number, and what it tells: with 7, 8 and 23 a cell, with 11 a place, with 28 why a book is not a sheet. And what an answer means that is a refusal, or what is given.
use Rattle.std.specs.Prelude.{List, [], ◌∷◌, ℕ, Result, Ok, Err}
use Rattle.std.proofs.Math.Option.{Option, none, some}
use Rattle.kinds.specs.declared.refusals.Broken.{Broken}
use Rattle.kinds.specs.declared.refusals.NotSheet.{NotSheet}
use Rattle.kinds.specs.declared.refusals.NotSheet.TheVariants as whys
use Rattle.kinds.specs.declared.refusals.Refusal.{Refusal}
use Rattle.kinds.specs.declared.refusals.Refusal.TheVariants.{FileTooShort, NoDimension, ManyVertices, ManyCells, SpareBits, FileLength, VertexOut, VertexTwice, BitsAfter, FrameBroken, RowsBroken, DimensionOver, NoRoom, AlreadyHeld, NeedMissing, NotHeld, NoSuchEntity, BufferTooShort, NoSuchIndex, PairsOff, ListLength, CountOutside, CellTwice, CellsKept, NumberDiffers, AxisCount, NotFinite, LongRim}
use Rattle.kinds.specs.declared.refusals.Refusal.TheVariants as refusals

-- ==== a refusal
-- its number
abbrev pub refusal_number : Refusal → ℕ
refusal_number FileTooShort = 1
refusal_number NoDimension = 2
refusal_number ManyVertices = 3
refusal_number ManyCells = 4
refusal_number SpareBits = 5
refusal_number FileLength = 6
refusal_number (VertexOut c) = 7
refusal_number (VertexTwice c) = 8
refusal_number BitsAfter = 9
refusal_number FrameBroken = 10
refusal_number (RowsBroken b) = 11
refusal_number DimensionOver = 12
refusal_number NoRoom = 13
refusal_number AlreadyHeld = 14
refusal_number NeedMissing = 15
refusal_number NotHeld = 16
refusal_number NoSuchEntity = 17
refusal_number BufferTooShort = 18
refusal_number NoSuchIndex = 19
refusal_number PairsOff = 20
refusal_number ListLength = 21
refusal_number CountOutside = 22
refusal_number (CellTwice c) = 23
refusal_number CellsKept = 24
refusal_number NumberDiffers = 25
refusal_number AxisCount = 26
refusal_number NotFinite = 27
refusal_number (refusals.NotSheet w) = 28
refusal_number LongRim = 29

-- a place as two numbers
abbrev pub placed : Broken → Option (ℕ × ℕ)
placed b = some (b.key, b.position)

-- the place that it tells, with 11
abbrev pub refusal_place : Refusal → Option (ℕ × ℕ)
refusal_place (RowsBroken b) = placed b
refusal_place r = none

-- the cell that it tells, with 7, 8 and 23; else 0
abbrev pub refusal_cell : Refusal → ℕ
refusal_cell (VertexOut c) = c.0
refusal_cell (VertexTwice c) = c.0
refusal_cell (CellTwice c) = c.0
refusal_cell r = 0

-- why a book is not a sheet: 28, why, and the vertex, edge or cell
abbrev pub why_answer : NotSheet → List ℕ
why_answer whys.Dimension = 28 ∷ 1 ∷ []
why_answer (whys.Vertex v) = 28 ∷ 2 ∷ v ∷ []
why_answer (whys.Edge k) = 28 ∷ 3 ∷ k ∷ []
why_answer (whys.Cell c) = 28 ∷ 4 ∷ c ∷ []

-- its number, and behind 28 why
abbrev pub refusal_why : Refusal → List ℕ
refusal_why (refusals.NotSheet w) = why_answer w
refusal_why r = refusal_number r ∷ []

-- ==== an answer: a refusal, or what is given
-- its number, 0 where accepted
abbrev pub answer_number : {A : Type 0} → Result A Refusal → ℕ
answer_number (Ok a) = 0
answer_number (Err r) = refusal_number r

-- the place that it tells
abbrev pub answer_place : {A : Type 0} → Result A Refusal → Option (ℕ × ℕ)
answer_place (Ok a) = none
answer_place (Err r) = refusal_place r

-- the cell that it tells
abbrev pub answer_cell : {A : Type 0} → Result A Refusal → ℕ
answer_cell (Ok a) = 0
answer_cell (Err r) = refusal_cell r

-- its number, and behind 28 why
abbrev pub answer_why : {A : Type 0} → Result A Refusal → List ℕ
answer_why (Ok a) = 0 ∷ []
answer_why (Err r) = refusal_why r

-- what an accepted answer gives, as a caller sees it, and nothing on a refusal
abbrev pub given {ℓ} : {A : Type 0} {B : Type ℓ} → B → (A → B) → Result A Refusal → B
given nothing view (Ok a) = view a
given nothing view (Err r) = nothing
