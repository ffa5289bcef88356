-- A book that is ready for d→e meets what its maker asks of each relation held.
use mathlib.Core.Path.{◌≡◌}
use mathlib.Core.Bool.{true}
use mathlib.Core.List.{List}
use Prim.Native.Nat.{ℕ, zero, suc, ◌+◌, ◌/◌, ◌^◌, ◌≤◌, ◌<◌, min}
use native.Mathlib.Omega.{arith}
use lib.ListN.{length, get_or}
use lib.Dec.{ltb}
use Rattle.rules.specs.Lists.{all_of, ascends}
use Rattle.rules.specs.Book.{dim, count, key, held, place, offset, total}
use Rattle.rules.proofs.Needs.{key-div, key-mod}
use Rattle.rules.proofs.FrameRule.{Framed, framed, limit, count-limit, room}
use Rattle.rules.proofs.RowRule.{offset-first, offset-rises, row-ascends, row-all, row-vertices}
use Rattle.rules.proofs.WordsFit.{used-short}
use Rattle.relations.specs.Words.{Rows}
use Rattle.relations.specs.Ready.{Ready}
use Rattle.relations.proofs.Linked.{row_in, row_is}

limit-most : (d : ℕ) → limit d ≤ 24576
unfolding limit
limit-most zero = omega arith
limit-most (suc zero) = omega arith
limit-most (suc (suc zero)) = omega arith
limit-most (suc (suc (suc d))) = omega arith

module _ {ws : List ℕ} {d e dst : ℕ} (r : Ready ws d e dst) where
  pub frame : Framed ws
  frame = framed ws r.frame

  pub small : dim ws < 4
  small = omega (arith, frame.high)

  pub used-fits : dst < 2 ^ 63
  used-fits = omega (arith, r.used, used-short ws frame r.rows)

  pub few : (x : ℕ) → x ≤ dim ws → count ws x ≤ 24576
  few x l = omega (arith, count-limit ws frame x l, limit-most x)

  -- a relation x→y that is held, as the code asks for it
  module _ (x y : ℕ) (l : y < 4) (h : held ws (key x y) ≡ true) where
    first-offset : get_or ws (place ws (key x y)) 0 ≡ 0
    unfolding offset
    first-offset =
        let z : place ws (key x y) + 0 ≡ place ws (key x y) = omega arith in
        rw z at (offset-first ws frame r.rows (key x y) h)

    keyed-rows : Rows ws (place ws (key x y)) (count ws (key x y / 4)) (min dst (length ws))
    unfolding offset total
    keyed-rows = record {
      first = first-offset;
      rise = λ i m. offset-rises ws frame r.rows (key x y) h i (i + 1) (omega arith) (omega arith);
      fit = omega (arith, room ws frame (key x y) h, r.used, frame.fits);
    }

    pub ready-rows : Rows ws (place ws (key x y)) (count ws x) (min dst (length ws))
    ready-rows = rw (key-div x y l) at keyed-rows

    module _ (i : ℕ) (m : i < count ws x) where
      numbered : i < count ws (key x y / 4)
      numbered = rw (key-div x y l) m

      pub ready-ascends : ascends (row_in ws x y i) ≡ true
      ready-ascends = rw (row_is ws x y l) at (row-ascends ws frame r.rows (key x y) h i numbered)

      pub ready-below : all_of (λ v. ltb v (count ws y)) (row_in ws x y i) ≡ true
      ready-below = rw (row_is ws x y l, key-mod x y l) at (row-all ws frame r.rows (key x y) h i numbered)

  -- a row of x→0 has x + 1 vertices
  pub ready-vertices : (x : ℕ) → 0 < x → held ws (key x 0) ≡ true → (i : ℕ) → i < count ws x → length (row_in ws x 0 i) ≡ x + 1
  ready-vertices x p h i m =
      let k : 0 < key x 0 = unfold key in omega arith in
      let n : i < count ws (key x 0 / 4) = rw (key-div x 0 (omega arith)) m in
      rw (row_is ws x 0 (omega arith), key-div x 0 (omega arith)) at
      (row-vertices ws frame r.rows (key x 0) h (key-mod x 0 (omega arith)) k i n)
