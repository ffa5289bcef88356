-- The cells of a right book, one after another, and the mesh that they make.
use mathlib.Core.Path.{◌≡◌, refl, sym, ap, ◌∙◌}
use mathlib.Core.Bool.{true}
use mathlib.Core.List.Memᴰ.{head as here}
use mathlib.Core.List.Memᴰ.{tail as there}
use mathlib.Core.List.{List, [], ◌∷◌, Memᴰ as In}
use Prim.Native.Nat.{ℕ, zero, suc, ◌+◌, ◌*◌, ◌≤◌, ◌<◌}
use native.Mathlib.Nat.{suc-mul, mul-le-mul, mul_comm}
use native.Mathlib.Omega.{arith}
use lib.ListN.{length, get_or}
use lib.Seq.{take_at, drop-append-add}
use lib.Dec.{ltb}
use borrow.Author.Tests.{ltb-true}
use Rattle.rules.specs.Lists.{joined}
use Rattle.rules.specs.Book.{dim, count, key, rows_of, frame_right, rows_right}
use Rattle.rules.specs.Plain.{mesh_in}
use Rattle.rules.proofs.Tests.{get_or-in, all-place}
use Rattle.rules.proofs.Numbered.{rows_agree, rows_all}
use Rattle.rules.proofs.FrameRule.{Framed, framed}
use Rattle.rules.proofs.Bits.{length-joined}
use Rattle.rules.proofs.RightCells.{cells-rows, cells-number, cell-length, cell-up}
use Rattle.cells.proofs.Marks.{cells_low}
use Rattle.plain.specs.declared.stored.Sizes.{Sizes}
use Rattle.plain.specs.Cells.{cell_at, cells_before, Cells, mesh_from}

-- ---- rows of one size, joined
joined-cell : (s : ℕ) (rs : List (List ℕ)) → ((r : List ℕ) → In r rs → length r ≡ s) → (c : ℕ) → c < length rs → cell_at s (joined rs) c ≡ get_or rs c []
unfolding joined cell_at
joined-cell s [] f c l = absurd (omega arith)
joined-cell s (r ∷ rs) f zero l =
    let e : 0 * s ≡ 0 = omega arith in
    rw e (take_at r (joined rs) s (f r (here refl)))
joined-cell s (r ∷ rs) f (suc c) l =
    let q = f r (here refl) in
    let e : suc c * s ≡ length r + c * s = suc-mul c s ∙ omega arith in
    rw (e, drop-append-add r (joined rs) (c * s)) (joined-cell s rs (λ x i. f x (there i)) c (omega arith))

joined-cells : (s : ℕ) (rs : List (List ℕ)) → ((r : List ℕ) → In r rs → length r ≡ s) → cells_before s (joined rs) (length rs) ≡ rs
unfolding cells_before
joined-cells s rs f = rows_agree (cell_at s (joined rs)) (λ c. get_or rs c []) (length rs) (joined-cell s rs f) ∙ rows_all rs []

-- ---- a right book
module _ (ws : List ℕ) (f : frame_right ws ≡ true) (r : rows_right ws ≡ true) where
  frame : Framed ws
  frame = framed ws f

  abbrev rows : List (List ℕ)
  rows = rows_of ws (key (dim ws) 0)

  number : length rows ≡ count ws (dim ws)
  number = ap length (sym (cells-rows ws)) ∙ cells-number ws

  sized : (c : List ℕ) → In c rows → length c ≡ dim ws + 1
  sized c i = cell-length ws frame r c (rw (cells-rows ws) i)

  long : length (joined rows) ≡ count ws (dim ws) * (dim ws + 1)
  long = length-joined (dim ws + 1) rows (λ q l. sized (get_or rows q []) (get_or-in rows q [] l)) ∙ rw number (mul_comm (dim ws + 1) (count ws (dim ws)))

  book-cells : Cells (joined rows) (dim ws) (count ws (dim ws))
  book-cells = record {
    high = frame.high;
    long = long;
    up = λ c l.
        let m : c < length rows = rw number l in
        rw (joined-cell (dim ws + 1) rows sized c m) (cell-up ws frame r (get_or rows c []) (rw (cells-rows ws) (get_or-in rows c [] m)));
    small = record {
      few = let h : dim ws + 1 ≤ 4 = omega (arith, frame.high) in omega (arith, mul-le-mul frame.cells h, long);
      below = λ p l. ltb-true (get_or (joined rows) p 0) 8192 (all-place (λ v. ltb v 8192) (joined rows) 0 (cells_low ws f r) p l);
    };
  }

  -- for what was read of the sizes
  pub read-cells : (D n : ℕ) → D ≡ dim ws → n ≡ count ws (dim ws) → Cells (joined rows) D n
  read-cells D n a b = rw (a, b) book-cells

  pub read-mesh : (s : Sizes) → s.dim ≡ dim ws → s.cells ≡ count ws (dim ws) → s.vertices ≡ count ws 0 → mesh_from s (joined rows) ≡ mesh_in ws
  unfolding mesh_from mesh_in
  read-mesh s a b v = rw (a, b, v, ← number, joined-cells (dim ws + 1) rows sized)
