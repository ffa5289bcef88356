-- A part of the book: its words, and where in the book's memory it lies.
use Rattle.std.specs.Prelude.{◌≡◌, List, ℕ, ◌+◌, ◌*◌, min, length, take, drop}
use Rattle.std.specs.Borrow.{Bor}
use Rattle.rules.specs.Book.{row_start, row_of}

-- the n words from `at` on, cut at the book's end, in the book's own memory: four bytes to a word
pub record PartOf (book part : Bor (List ℕ)) (at n : ℕ) : Type 0 where
  pub words : part.now ≡ take n (drop at book.now)
  pub block : part.ref_ptr.0 ≡ book.ref_ptr.0
  pub start : part.ref_ptr.1 ≡ book.ref_ptr.1 + 4 * min at (length book.now)

-- row i of the relation of key k, in the book's own memory, and at the book's end where it would begin past it
pub record RowPart (book row : Bor (List ℕ)) (k i : ℕ) : Type 0 where
  pub words : row.now ≡ row_of book.now k i
  pub block : row.ref_ptr.0 ≡ book.ref_ptr.0
  pub start : row.ref_ptr.1 ≡ book.ref_ptr.1 + 4 * min (row_start book.now k i) (length book.now)
