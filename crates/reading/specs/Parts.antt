-- What Row hands back and what Write puts, as parts of what is lent; and the Euler number's two sums.
use Rattle.std.specs.Prelude.{◌≡◌, cond, List, ◌++◌, ℕ, ◌+◌, ◌*◌, length, drop, leb}
use Rattle.std.specs.Borrow.{Bor}
use Rattle.rules.specs.Book.{dim, count, key, row_start}
use Rattle.rules.specs.Calls.{row_number, row_part, written, write_length, used_vertices}

-- the part that Row hands back, in the book's own memory; where accepted, at the row's place, four bytes to a word
pub record RowOf (book row : Bor (List ℕ)) (d e i : ℕ) : Type 0 where
  pub words : row.now ≡ row_part book.now d e i
  pub block : row.ref_ptr.0 ≡ book.ref_ptr.0
  pub start : row_number book.now d e i ≡ 0 → row.ref_ptr.1 ≡ book.ref_ptr.1 + 4 * row_start book.now (key d e) i

-- the book's file at the front of the bytes, if they have room for it, and its length n
pub record FilePut (ws bs : List ℕ) (n : ℕ) (cs : List ℕ) : Type 0 where
  pub size : n ≡ write_length ws
  pub bytes : cs ≡ cond (leb (write_length ws) (length bs)) (written ws ++ drop (write_length ws) bs) bs

-- how many vertices lie in at least one cell, and N_2 where D is 2 or more
unfoldable pub evens : List ℕ → ℕ
evens ws = length (used_vertices ws) + cond (leb 2 (dim ws)) (count ws 2) 0

-- N_1, and N_3 where D is 3
unfoldable pub odds : List ℕ → ℕ
odds ws = count ws 1 + cond (leb 3 (dim ws)) (count ws 3) 0
