-- The numbers of Euler and Held count, case by case; and the two sums and their bounds.
use mathlib.Core.Path.{◌≡◌, sym}
use mathlib.Core.Bool.{Bool, true, false, not, ◌&&◌}
use mathlib.Core.List.{List}
use Prim.Native.Nat.{ℕ, ◌+◌, ◌≤◌, ◌<◌}
use native.Mathlib.Nat.{add-zero}
use native.Mathlib.Omega.{arith}
use lib.ListN.{length}
use lib.Dec.{ltb}
use borrow.Author.Tests.{le-leb, lt-leb}
use Rattle.rules.specs.Book.{dim, count, key, held, rows_of, frame_right, rows_right}
use Rattle.rules.specs.Calls.{first_broken, euler_rules, euler_number, used_vertices, held_rules, held_number}
use Rattle.rules.proofs.FrameRule.{limit, framed, count-limit}
use Rattle.rules.proofs.Members.{members-most}
use Rattle.reading.specs.Parts.{evens, odds}
use Rattle.cells.proofs.Marks.{vertices-low}

-- d→0 is missing, where d < D
unfoldable pub missing : List ℕ → ℕ → Bool
missing ws d = ltb d (dim ws) && not (held ws (key d 0))

module _ (ws : List ℕ) where
  pub euler-15-edges : frame_right ws ≡ true → rows_right ws ≡ true → missing ws 1 ≡ true → 15 ≡ euler_number ws
  unfolding euler_number euler_rules first_broken missing
  euler-15-edges f r e = rw (f, r, e)

  pub euler-15-faces : frame_right ws ≡ true → rows_right ws ≡ true → missing ws 1 ≡ false → missing ws 2 ≡ true → 15 ≡ euler_number ws
  unfolding euler_number euler_rules first_broken missing
  euler-15-faces f r e s = rw (f, r, e, s)

  pub euler-0 : frame_right ws ≡ true → rows_right ws ≡ true → missing ws 1 ≡ false → missing ws 2 ≡ false → 0 ≡ euler_number ws
  unfolding euler_number euler_rules first_broken missing
  euler-0 f r e s = rw (f, r, e, s)

  pub held-10 : frame_right ws ≡ false → 10 ≡ held_number ws
  unfolding held_number held_rules first_broken
  held-10 f = rw f

  pub held-0 : frame_right ws ≡ true → 0 ≡ held_number ws
  unfolding held_number held_rules first_broken
  held-0 f = rw f

  -- the sums, without and with their second part
  pub evens-one : dim ws < 2 → length (used_vertices ws) ≡ evens ws
  unfolding evens
  evens-one l = rw (lt-leb 2 (dim ws) l) (sym (add-zero (length (used_vertices ws))))

  pub evens-two : 2 ≤ dim ws → length (used_vertices ws) + count ws 2 ≡ evens ws
  unfolding evens
  evens-two l = rw (le-leb 2 (dim ws) l)

  pub odds-one : dim ws < 3 → count ws 1 ≡ odds ws
  unfolding odds
  odds-one l = rw (lt-leb 3 (dim ws) l) (sym (add-zero (count ws 1)))

  pub odds-two : 3 ≤ dim ws → count ws 1 + count ws 3 ≡ odds ws
  unfolding odds
  odds-two l = rw (le-leb 3 (dim ws) l)

  module _ (f : frame_right ws ≡ true) where
    used_low : length (used_vertices ws) ≤ 8192
    unfolding used_vertices
    used_low = omega (arith, members-most (count ws 0) (rows_of ws (key (dim ws) 0)), vertices-low ws f)

    pub evens-low : 2 ≤ dim ws → length (used_vertices ws) + count ws 2 ≤ 24576
    unfolding limit
    evens-low l = omega (arith, used_low, count-limit ws (framed ws f) 2 l)

    pub odds-low : 3 ≤ dim ws → count ws 1 + count ws 3 ≤ 28672
    unfolding limit
    odds-low l = omega (arith, count-limit ws (framed ws f) 1 (omega arith), count-limit ws (framed ws f) 3 l)
