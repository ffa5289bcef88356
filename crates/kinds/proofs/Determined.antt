-- An answer is determined by its number and what it tells and gives: two answers that a contract allows are equal.
use Rattle.std.specs.Prelude.{Bool, true, false, cond, not, ◌&&◌, ◌||◌, List, [], ◌∷◌, ℕ, zero, suc, ◌<◌, get_or, eqb, Result, Ok, Err, IsErrAnd, is_err, ◌≡◌}
use mathlib.Core.Bool.{true≢false}
use borrow.Author.Tests.{not-true}
use native.Mathlib.Omega.{arith}
use mathlib.Core.Path.{refl, sym, ap, ◌∙◌}
use Rattle.std.proofs.Math.Option.{Option, none, some}
use mathlib.Core.Option.{none-ne-some}
use Rattle.rules.specs.Lists.{all_of}
use Rattle.rules.specs.Calls.{Rule, first_broken}
use Rattle.rules.proofs.Tests.{left, right}
use Rattle.kinds.specs.declared.refusals.Broken.{Broken}
use Rattle.kinds.specs.declared.refusals.NotSheet.{NotSheet}
use Rattle.kinds.specs.declared.refusals.NotSheet.TheVariants as whys
use Rattle.kinds.specs.declared.refusals.Refusal.{Refusal}
use Rattle.kinds.specs.declared.refusals.Refusal.TheVariants.{FileTooShort, NoDimension, ManyVertices, ManyCells, SpareBits, FileLength, VertexOut, VertexTwice, BitsAfter, FrameBroken, RowsBroken, DimensionOver, NoRoom, AlreadyHeld, NeedMissing, NotHeld, NoSuchEntity, BufferTooShort, NoSuchIndex, PairsOff, ListLength, CountOutside, CellTwice, CellsKept, NumberDiffers, AxisCount, NotFinite, LongRim}
use Rattle.kinds.specs.declared.refusals.Refusal.TheVariants as refusals
use Rattle.kinds.specs.Refusals.{refusal_number, refusal_place, refusal_cell, refusal_why, answer_number, answer_place, answer_cell, answer_why}

-- ---- a refusal from its number and what it tells
-- a place: the one that its two numbers make
broken_of : Option (ℕ × ℕ) → Broken
broken_of none = record { key = 0; position = 0 }
broken_of (some (k, p)) = record { key = k; position = p }

-- why a book is not a sheet
why_of : List ℕ → NotSheet
why_of (a ∷ suc (suc zero) ∷ x ∷ l) = whys.Vertex x
why_of (a ∷ suc (suc (suc zero)) ∷ x ∷ l) = whys.Edge x
why_of (a ∷ suc (suc (suc (suc n))) ∷ x ∷ l) = whys.Cell x
why_of l = whys.Dimension

refusal_of : ℕ → Option (ℕ × ℕ) → ℕ → List ℕ → Refusal
refusal_of n place cell why =
    (cond (eqb n 1) FileTooShort
    (cond (eqb n 2) NoDimension
    (cond (eqb n 3) ManyVertices
    (cond (eqb n 4) ManyCells
    (cond (eqb n 5) SpareBits
    (cond (eqb n 6) FileLength
    (cond (eqb n 7) (VertexOut (record { 0 = cell }))
    (cond (eqb n 8) (VertexTwice (record { 0 = cell }))
    (cond (eqb n 9) BitsAfter
    (cond (eqb n 10) FrameBroken
    (cond (eqb n 11) (RowsBroken (broken_of place))
    (cond (eqb n 12) DimensionOver
    (cond (eqb n 13) NoRoom
    (cond (eqb n 14) AlreadyHeld
    (cond (eqb n 15) NeedMissing
    (cond (eqb n 16) NotHeld
    (cond (eqb n 17) NoSuchEntity
    (cond (eqb n 18) BufferTooShort
    (cond (eqb n 19) NoSuchIndex
    (cond (eqb n 20) PairsOff
    (cond (eqb n 21) ListLength
    (cond (eqb n 22) CountOutside
    (cond (eqb n 23) (CellTwice (record { 0 = cell }))
    (cond (eqb n 24) CellsKept
    (cond (eqb n 25) NumberDiffers
    (cond (eqb n 26) AxisCount
    (cond (eqb n 27) NotFinite
    (cond (eqb n 28) (refusals.NotSheet (why_of why))
    LongRim))))))))))))))))))))))))))))

refusal_back : (r : Refusal) → refusal_of (refusal_number r) (refusal_place r) (refusal_cell r) (refusal_why r) ≡ r
unfolding refusal_of broken_of why_of
refusal_back FileTooShort = refl
refusal_back NoDimension = refl
refusal_back ManyVertices = refl
refusal_back ManyCells = refl
refusal_back SpareBits = refl
refusal_back FileLength = refl
refusal_back (VertexOut c) = refl
refusal_back (VertexTwice c) = refl
refusal_back BitsAfter = refl
refusal_back FrameBroken = refl
refusal_back (RowsBroken b) = refl
refusal_back DimensionOver = refl
refusal_back NoRoom = refl
refusal_back AlreadyHeld = refl
refusal_back NeedMissing = refl
refusal_back NotHeld = refl
refusal_back NoSuchEntity = refl
refusal_back BufferTooShort = refl
refusal_back NoSuchIndex = refl
refusal_back PairsOff = refl
refusal_back ListLength = refl
refusal_back CountOutside = refl
refusal_back (CellTwice c) = refl
refusal_back CellsKept = refl
refusal_back NumberDiffers = refl
refusal_back AxisCount = refl
refusal_back NotFinite = refl
refusal_back (refusals.NotSheet whys.Dimension) = refl
refusal_back (refusals.NotSheet (whys.Vertex v)) = refl
refusal_back (refusals.NotSheet (whys.Edge k)) = refl
refusal_back (refusals.NotSheet (whys.Cell c)) = refl
refusal_back LongRim = refl

refusal-alike : (r s : Refusal) → refusal_number r ≡ refusal_number s → refusal_place r ≡ refusal_place s → refusal_cell r ≡ refusal_cell s → refusal_why r ≡ refusal_why s → r ≡ s
refusal-alike r s n p c w = sym (refusal_back r) ∙ rw (n, p, c, w) (refusal_back s)

-- ---- a number that comes without a cell and without a reason
unfoldable pub bare : ℕ → Bool
bare n = not (eqb n 7 || eqb n 8 || eqb n 23 || eqb n 28)

bare_cell : (r : Refusal) → bare (refusal_number r) ≡ true → refusal_cell r ≡ 0
unfolding bare
bare_cell FileTooShort b = refl
bare_cell NoDimension b = refl
bare_cell ManyVertices b = refl
bare_cell ManyCells b = refl
bare_cell SpareBits b = refl
bare_cell FileLength b = refl
bare_cell (VertexOut c) b = absurd (true≢false (sym b))
bare_cell (VertexTwice c) b = absurd (true≢false (sym b))
bare_cell BitsAfter b = refl
bare_cell FrameBroken b = refl
bare_cell (RowsBroken p) b = refl
bare_cell DimensionOver b = refl
bare_cell NoRoom b = refl
bare_cell AlreadyHeld b = refl
bare_cell NeedMissing b = refl
bare_cell NotHeld b = refl
bare_cell NoSuchEntity b = refl
bare_cell BufferTooShort b = refl
bare_cell NoSuchIndex b = refl
bare_cell PairsOff b = refl
bare_cell ListLength b = refl
bare_cell CountOutside b = refl
bare_cell (CellTwice c) b = absurd (true≢false (sym b))
bare_cell CellsKept b = refl
bare_cell NumberDiffers b = refl
bare_cell AxisCount b = refl
bare_cell NotFinite b = refl
bare_cell (refusals.NotSheet w) b = refl
bare_cell LongRim b = refl

-- a number that comes without a cell
unfoldable pub alone : ℕ → Bool
alone n = not (eqb n 7 || eqb n 8 || eqb n 23)

cell-less : (r : Refusal) → alone (refusal_number r) ≡ true → refusal_cell r ≡ 0
unfolding alone
cell-less FileTooShort e = refl
cell-less NoDimension e = refl
cell-less ManyVertices e = refl
cell-less ManyCells e = refl
cell-less SpareBits e = refl
cell-less FileLength e = refl
cell-less (VertexOut c) e = absurd (true≢false (sym e))
cell-less (VertexTwice c) e = absurd (true≢false (sym e))
cell-less BitsAfter e = refl
cell-less FrameBroken e = refl
cell-less (RowsBroken b) e = refl
cell-less DimensionOver e = refl
cell-less NoRoom e = refl
cell-less AlreadyHeld e = refl
cell-less NeedMissing e = refl
cell-less NotHeld e = refl
cell-less NoSuchEntity e = refl
cell-less BufferTooShort e = refl
cell-less NoSuchIndex e = refl
cell-less PairsOff e = refl
cell-less ListLength e = refl
cell-less CountOutside e = refl
cell-less (CellTwice c) e = absurd (true≢false (sym e))
cell-less CellsKept e = refl
cell-less NumberDiffers e = refl
cell-less AxisCount e = refl
cell-less NotFinite e = refl
cell-less (refusals.NotSheet w) e = refl
cell-less LongRim e = refl

-- the number stands before the reason
pub first-of-why : (r : Refusal) → refusal_number r ≡ get_or (refusal_why r) 0 0
first-of-why FileTooShort = refl
first-of-why NoDimension = refl
first-of-why ManyVertices = refl
first-of-why ManyCells = refl
first-of-why SpareBits = refl
first-of-why FileLength = refl
first-of-why (VertexOut c) = refl
first-of-why (VertexTwice c) = refl
first-of-why BitsAfter = refl
first-of-why FrameBroken = refl
first-of-why (RowsBroken b) = refl
first-of-why DimensionOver = refl
first-of-why NoRoom = refl
first-of-why AlreadyHeld = refl
first-of-why NeedMissing = refl
first-of-why NotHeld = refl
first-of-why NoSuchEntity = refl
first-of-why BufferTooShort = refl
first-of-why NoSuchIndex = refl
first-of-why PairsOff = refl
first-of-why ListLength = refl
first-of-why CountOutside = refl
first-of-why (CellTwice c) = refl
first-of-why CellsKept = refl
first-of-why NumberDiffers = refl
first-of-why AxisCount = refl
first-of-why NotFinite = refl
first-of-why (refusals.NotSheet whys.Dimension) = refl
first-of-why (refusals.NotSheet (whys.Vertex v)) = refl
first-of-why (refusals.NotSheet (whys.Edge k)) = refl
first-of-why (refusals.NotSheet (whys.Cell c)) = refl
first-of-why LongRim = refl

-- a number that comes without a reason
unreasoned : (r : Refusal) → eqb (refusal_number r) 28 ≡ false → refusal_why r ≡ refusal_number r ∷ []
unreasoned FileTooShort e = refl
unreasoned NoDimension e = refl
unreasoned ManyVertices e = refl
unreasoned ManyCells e = refl
unreasoned SpareBits e = refl
unreasoned FileLength e = refl
unreasoned (VertexOut c) e = refl
unreasoned (VertexTwice c) e = refl
unreasoned BitsAfter e = refl
unreasoned FrameBroken e = refl
unreasoned (RowsBroken b) e = refl
unreasoned DimensionOver e = refl
unreasoned NoRoom e = refl
unreasoned AlreadyHeld e = refl
unreasoned NeedMissing e = refl
unreasoned NotHeld e = refl
unreasoned NoSuchEntity e = refl
unreasoned BufferTooShort e = refl
unreasoned NoSuchIndex e = refl
unreasoned PairsOff e = refl
unreasoned ListLength e = refl
unreasoned CountOutside e = refl
unreasoned (CellTwice c) e = refl
unreasoned CellsKept e = refl
unreasoned NumberDiffers e = refl
unreasoned AxisCount e = refl
unreasoned NotFinite e = refl
unreasoned (refusals.NotSheet w) e = absurd (true≢false e)
unreasoned LongRim e = refl

bare_why : (r : Refusal) → bare (refusal_number r) ≡ true → refusal_why r ≡ refusal_number r ∷ []
unfolding bare
bare_why r b = unreasoned r (go (eqb (refusal_number r) 7 || eqb (refusal_number r) 8 || eqb (refusal_number r) 23) (eqb (refusal_number r) 28) b)
  where
    go : (x y : Bool) → not (x || y) ≡ true → y ≡ false
    go true y e = absurd (true≢false (sym e))
    go false true e = absurd (true≢false (sym e))
    go false false e = refl

-- a number that comes without a place
unplaced : (r : Refusal) → eqb (refusal_number r) 11 ≡ false → refusal_place r ≡ none
unplaced FileTooShort e = refl
unplaced NoDimension e = refl
unplaced ManyVertices e = refl
unplaced ManyCells e = refl
unplaced SpareBits e = refl
unplaced FileLength e = refl
unplaced (VertexOut c) e = refl
unplaced (VertexTwice c) e = refl
unplaced BitsAfter e = refl
unplaced FrameBroken e = refl
unplaced (RowsBroken b) e = absurd (true≢false e)
unplaced DimensionOver e = refl
unplaced NoRoom e = refl
unplaced AlreadyHeld e = refl
unplaced NeedMissing e = refl
unplaced NotHeld e = refl
unplaced NoSuchEntity e = refl
unplaced BufferTooShort e = refl
unplaced NoSuchIndex e = refl
unplaced PairsOff e = refl
unplaced ListLength e = refl
unplaced CountOutside e = refl
unplaced (CellTwice c) e = refl
unplaced CellsKept e = refl
unplaced NumberDiffers e = refl
unplaced AxisCount e = refl
unplaced NotFinite e = refl
unplaced (refusals.NotSheet w) e = refl
unplaced LongRim e = refl

-- and a refusal that tells no place has a number other than 11
pub placed-eleven : (r : Refusal) → refusal_place r ≡ none → eqb (refusal_number r) 11 ≡ false
placed-eleven FileTooShort e = refl
placed-eleven NoDimension e = refl
placed-eleven ManyVertices e = refl
placed-eleven ManyCells e = refl
placed-eleven SpareBits e = refl
placed-eleven FileLength e = refl
placed-eleven (VertexOut c) e = refl
placed-eleven (VertexTwice c) e = refl
placed-eleven BitsAfter e = refl
placed-eleven FrameBroken e = refl
placed-eleven (RowsBroken b) e = absurd (none-ne-some _ (sym e))
placed-eleven DimensionOver e = refl
placed-eleven NoRoom e = refl
placed-eleven AlreadyHeld e = refl
placed-eleven NeedMissing e = refl
placed-eleven NotHeld e = refl
placed-eleven NoSuchEntity e = refl
placed-eleven BufferTooShort e = refl
placed-eleven NoSuchIndex e = refl
placed-eleven PairsOff e = refl
placed-eleven ListLength e = refl
placed-eleven CountOutside e = refl
placed-eleven (CellTwice c) e = refl
placed-eleven CellsKept e = refl
placed-eleven NumberDiffers e = refl
placed-eleven AxisCount e = refl
placed-eleven NotFinite e = refl
placed-eleven (refusals.NotSheet w) e = refl
placed-eleven LongRim e = refl

-- ---- two answers
pub positive : (r : Refusal) → 0 < refusal_number r
positive FileTooShort = omega arith
positive NoDimension = omega arith
positive ManyVertices = omega arith
positive ManyCells = omega arith
positive SpareBits = omega arith
positive FileLength = omega arith
positive (VertexOut c) = omega arith
positive (VertexTwice c) = omega arith
positive BitsAfter = omega arith
positive FrameBroken = omega arith
positive (RowsBroken b) = omega arith
positive DimensionOver = omega arith
positive NoRoom = omega arith
positive AlreadyHeld = omega arith
positive NeedMissing = omega arith
positive NotHeld = omega arith
positive NoSuchEntity = omega arith
positive BufferTooShort = omega arith
positive NoSuchIndex = omega arith
positive PairsOff = omega arith
positive ListLength = omega arith
positive CountOutside = omega arith
positive (CellTwice c) = omega arith
positive CellsKept = omega arith
positive NumberDiffers = omega arith
positive AxisCount = omega arith
positive NotFinite = omega arith
positive (refusals.NotSheet w) = omega arith
positive LongRim = omega arith

pub refused-accepted : (r : Refusal) → refusal_number r ≡ 0 → ⊥
refused-accepted r e = omega (arith, positive r)

module _ {A : Type 0} where
  -- the same number, place, cell and reason, and, where accepted, the same given
  pub answers-alike : (a b : Result A Refusal) → answer_number a ≡ answer_number b → answer_place a ≡ answer_place b → answer_cell a ≡ answer_cell b → answer_why a ≡ answer_why b
      → ((x y : A) → a ≡ Ok x → b ≡ Ok y → x ≡ y) → a ≡ b
  answers-alike (Ok x) (Ok y) n p c w g = ap Ok (g x y refl refl)
  answers-alike (Ok x) (Err s) n p c w g = absurd (refused-accepted s (sym n))
  answers-alike (Err r) (Ok y) n p c w g = absurd (refused-accepted r n)
  answers-alike (Err r) (Err s) n p c w g = ap Err (refusal-alike r s n p c w)

  -- a bare number tells no cell and no reason
  pub bare-cell : (a : Result A Refusal) → bare (answer_number a) ≡ true → answer_cell a ≡ 0
  bare-cell (Ok x) b = refl
  bare-cell (Err r) b = bare_cell r b

  pub bare-why : (a : Result A Refusal) → bare (answer_number a) ≡ true → answer_why a ≡ answer_number a ∷ []
  bare-why (Ok x) b = refl
  bare-why (Err r) b = bare_why r b

  -- two answers with one bare number, one place and, where accepted, the same given
  pub bare-alike : (a b : Result A Refusal) (n : ℕ) (p : Option (ℕ × ℕ)) → bare n ≡ true → answer_number a ≡ n → answer_place a ≡ p → answer_number b ≡ n → answer_place b ≡ p
      → ((x y : A) → a ≡ Ok x → b ≡ Ok y → x ≡ y) → a ≡ b
  bare-alike a b n p h m q k r g =
      answers-alike a b (m ∙ sym k) (q ∙ sym r)
      (bare-cell a (ap bare m ∙ h) ∙ sym (bare-cell b (ap bare k ∙ h)))
      (bare-why a (ap bare m ∙ h) ∙ ap (λ i. i ∷ []) (m ∙ sym k) ∙ sym (bare-why b (ap bare k ∙ h)))
      g

-- ---- a number that comes without a place and without a reason
unfoldable pub low : ℕ → Bool
low n = not (eqb n 11 || eqb n 28)

module _ {A : Type 0} where
  pub low-place : (a : Result A Refusal) → low (answer_number a) ≡ true → answer_place a ≡ none
  unfolding low
  low-place (Ok x) l = refl
  low-place (Err r) l = unplaced r (go (eqb (refusal_number r) 11) (eqb (refusal_number r) 28) l)
    where
      go : (x y : Bool) → not (x || y) ≡ true → x ≡ false
      go true y e = absurd (true≢false (sym e))
      go false y e = refl

  pub low-why : (a : Result A Refusal) → low (answer_number a) ≡ true → answer_why a ≡ answer_number a ∷ []
  unfolding low
  low-why (Ok x) l = refl
  low-why (Err r) l = unreasoned r (go (eqb (refusal_number r) 11) (eqb (refusal_number r) 28) l)
    where
      go : (x y : Bool) → not (x || y) ≡ true → y ≡ false
      go true y e = absurd (true≢false (sym e))
      go false true e = absurd (true≢false (sym e))
      go false false e = refl

-- ---- two answers that may tell a reason
module _ {A : Type 0} where
  pub first-in-why : (a : Result A Refusal) → answer_number a ≡ get_or (answer_why a) 0 0
  first-in-why (Ok x) = refl
  first-in-why (Err r) = first-of-why r

  alone-cell : (a : Result A Refusal) → alone (answer_number a) ≡ true → answer_cell a ≡ 0
  alone-cell (Ok x) h = refl
  alone-cell (Err r) h = cell-less r h

  pub reasoned-alike : (a b : Result A Refusal) (why : List ℕ) (p : Option (ℕ × ℕ)) → alone (get_or why 0 0) ≡ true → answer_why a ≡ why → answer_place a ≡ p → answer_why b ≡ why → answer_place b ≡ p
      → ((x y : A) → a ≡ Ok x → b ≡ Ok y → x ≡ y) → a ≡ b
  reasoned-alike a b why p h w q v r g =
      let m = first-in-why a ∙ ap (λ (l : List ℕ). get_or l 0 0) w in
      let n = first-in-why b ∙ ap (λ (l : List ℕ). get_or l 0 0) v in
      answers-alike a b (m ∙ sym n) (q ∙ sym r) (alone-cell a (ap alone m ∙ h) ∙ sym (alone-cell b (ap alone n ∙ h))) (w ∙ sym v) g

-- ---- two answers that tell nothing but a number
-- such a number
unfoldable pub silent : ℕ → Bool
silent n = bare n && not (eqb n 11)

module _ {A : Type 0} where
  pub no-place : (a : Result A Refusal) → eqb (answer_number a) 11 ≡ false → answer_place a ≡ none
  no-place (Ok x) e = refl
  no-place (Err r) e = unplaced r e

  pub silent-alike : (a b : Result A Refusal) (n : ℕ) → silent n ≡ true → answer_number a ≡ n → answer_number b ≡ n → ((x y : A) → a ≡ Ok x → b ≡ Ok y → x ≡ y) → a ≡ b
  unfolding silent
  silent-alike a b n h m k g =
      let e = not-true (eqb n 11) (right (bare n) (not (eqb n 11)) h) in
      bare-alike a b n none (left (bare n) (not (eqb n 11)) h) m (no-place a (rw m e)) k (no-place b (rw k e)) g

-- ---- what all of a call's refusals have, its number has
pub number-has {ℓ} : {A : Type ℓ} (p : A → Bool) (rs : List (Rule A)) (n : A) → all_of (λ r. p r.answer) rs ≡ true → p n ≡ true → p (first_broken rs n) ≡ true
unfolding all_of first_broken
number-has p [] n a h = h
number-has p (r ∷ rs) n a h = go r.broken (number-has p rs n (right (p r.answer) (all_of (λ r. p r.answer) rs) a) h)
  where
    go : (b : Bool) → p (first_broken rs n) ≡ true → p (cond b r.answer (first_broken rs n)) ≡ true
    go true i = left (p r.answer) (all_of (λ r. p r.answer) rs) a
    go false i = i

-- ---- a refusal that `?` hands on
pub handed-on : {A : Type 0} (a : Result A Refusal) (r : Refusal) → IsErrAnd a (λ s. s ≡ r) → a ≡ Err r
handed-on (Ok x) r e = absurd e
handed-on (Err s) r e = ap Err e

-- ---- an answer that is a refusal has a number, and one that is not has none
pub erred : {A : Type 0} (a : Result A Refusal) → is_err a ≡ true → answer_number a ≡ 0 → ⊥
erred (Ok x) e = absurd (true≢false (sym e))
erred (Err r) e = refused-accepted r

pub given-none : {A : Type 0} (a : Result A Refusal) → is_err a ≡ false → answer_number a ≡ 0
given-none (Ok x) e = refl
given-none (Err r) e = absurd (true≢false e)

-- ---- whether a refusal tells a place
pub data Where (r : Refusal) : Type 0 where
  nowhere : refusal_place r ≡ none → eqb (refusal_number r) 11 ≡ false → Where r
  there : (b : ℕ × ℕ) → refusal_place r ≡ some b → 11 ≡ refusal_number r → Where r

pub where_told : (r : Refusal) → Where r
where_told FileTooShort = nowhere refl refl
where_told NoDimension = nowhere refl refl
where_told ManyVertices = nowhere refl refl
where_told ManyCells = nowhere refl refl
where_told SpareBits = nowhere refl refl
where_told FileLength = nowhere refl refl
where_told (VertexOut c) = nowhere refl refl
where_told (VertexTwice c) = nowhere refl refl
where_told BitsAfter = nowhere refl refl
where_told FrameBroken = nowhere refl refl
where_told (RowsBroken b) = there (b.key, b.position) refl refl
where_told DimensionOver = nowhere refl refl
where_told NoRoom = nowhere refl refl
where_told AlreadyHeld = nowhere refl refl
where_told NeedMissing = nowhere refl refl
where_told NotHeld = nowhere refl refl
where_told NoSuchEntity = nowhere refl refl
where_told BufferTooShort = nowhere refl refl
where_told NoSuchIndex = nowhere refl refl
where_told PairsOff = nowhere refl refl
where_told ListLength = nowhere refl refl
where_told CountOutside = nowhere refl refl
where_told (CellTwice c) = nowhere refl refl
where_told CellsKept = nowhere refl refl
where_told NumberDiffers = nowhere refl refl
where_told AxisCount = nowhere refl refl
where_told NotFinite = nowhere refl refl
where_told (refusals.NotSheet w) = nowhere refl refl
where_told LongRim = nowhere refl refl
