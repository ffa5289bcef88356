-- The first vertices of a cell that is put down, copied into the book.
use mathlib.Core.Path.{◌≡◌, sym}
use mathlib.Core.List.{List, append_assoc}
use Prim.Native.Nat.{ℕ, ◌+◌, ◌-◌, ◌*◌, ◌≤◌}
use native.Mathlib.Omega.{arith}
use lib.ListN.{length, take, drop, length-drop}
use lib.Seq.{take_at, take-take, drop-drop, length-take-le}
use borrow.Rule.Slice.PartMut.{put_mid}
use Rattle.repeats.specs.Rows.{row_at}
use Rattle.relations.specs.Words.{Written}

-- n words put over as many from a place on
pub put-over : (ws new : List ℕ) (at n : ℕ) → length new ≡ n → at + n ≤ length ws → Written ws at new (at + n) (put_mid at (at + n - at) ws new)
put-over ws new at n e l =
    let m : at + n - at ≡ n = omega arith in
    record {
      place = omega arith;
      front = take_at (take at ws) _ at (length-take-le at ws (omega arith));
      words = λ k. rw (m, drop-drop n at ws) (sym (append_assoc (take at ws) new (drop (at + n) ws)));
    }

-- the first words of a cell's four, which are all there
pub cell-words : (words : List ℕ) (c n : ℕ) → n ≤ 4 → 4 * c + n ≤ length words → (take n (drop (4 * c) words) ≡ take n (row_at 4 words c)) × (length (take n (drop (4 * c) words)) ≡ n)
unfolding row_at
cell-words words c n l m = (sym (take-take n 4 (drop (4 * c) words) l), length-take-le n (drop (4 * c) words) (rw length-drop (omega arith)))
