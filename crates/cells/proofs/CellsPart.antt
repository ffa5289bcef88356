-- The cells of a right book stand one after another behind the offsets of D→0.
use mathlib.Core.Path.{◌≡◌, ap}
use mathlib.Core.Bool.{true}
use mathlib.Core.List.{List}
use Prim.Native.Nat.{ℕ, ◌+◌, ◌/◌, ◌≤◌}
use native.Mathlib.Omega.{arith}
use lib.ListN.{length, take, drop}
use Rattle.rules.specs.Lists.{joined}
use Rattle.rules.specs.Book.{dim, count, key, place, total, rows_of, frame_right, rows_right}
use Rattle.rules.proofs.FrameRule.{Framed, framed, room}
use Rattle.rules.proofs.Needs.{key-div}
use Rattle.rules.proofs.RightBook.{joined-all}

module _ (ws : List ℕ) (g : frame_right ws ≡ true) where
  f : Framed ws
  f = framed ws g

  abbrev k : ℕ
  k = key (dim ws) 0

  over : k / 4 ≡ dim ws
  over = key-div (dim ws) 0 (omega arith)

  -- they lie within the book
  pub cells-inside : place ws k + count ws (dim ws) + 1 + total ws k ≤ length ws
  cells-inside = let e = room ws f k f.top in omega (arith, f.fits, ap (count ws) over)

  pub cells_are : rows_right ws ≡ true → joined (rows_of ws k) ≡ take (total ws k) (drop (place ws k + count ws (dim ws) + 1) ws)
  cells_are r = rw over at (joined-all ws f r k f.top)
