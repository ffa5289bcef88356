-- The indices of D→0 lie within a right book, one row after another behind its offsets.
use mathlib.Core.Path.{◌≡◌, sym, ap, ◌∙◌}
use Prim.Native.Nat.{ℕ, ◌+◌, ◌-◌, ◌≤◌}
use native.Mathlib.Omega.{arith}
use lib.ListN.{length}
use Rattle.rules.specs.Book.{dim, count, key, place, total}
use Rattle.rules.proofs.FrameRule.{framed}
use Rattle.cells.proofs.CellsPart.{cells-inside, cells_are}
use Rattle.cells.proofs.cells.Goals as goal

-- the offsets, and the indices behind them, lie within the book
offsets-inside : (c : goal.After-struct_known-1) → c.place_of.result.0 + c.count.result + 1 ≤ length (c.args.book.now)
offsets-inside c =
    let key-is : c.key-k.result ≡ key (dim (c.args.book.now)) 0 =
    c.key-k.ensures ∙ ap (λ (d : ℕ). key d 0) c.dim-top.ensures in
    let place_is : c.place_of.result.0 ≡ place (c.args.book.now) (key (dim (c.args.book.now)) 0) =
    c.place_of.ensures ∙ ap (place (c.args.book.now)) (key-is) in
    let count-is : c.count.result ≡ count (c.args.book.now) (dim (c.args.book.now)) =
    c.count.ensures ∙ ap (count (c.args.book.now)) c.dim-top.ensures in
    omega (arith, place_is, count-is, cells-inside (c.args.book.now) c.requires.0)

inside : (c : goal.After-total) → c.place_of.result.0 + c.count.result + 1 + c.total.result ≤ length (c.args.book.now)
inside c =
    let key-is : c.key-k.result ≡ key (dim (c.args.book.now)) 0 =
    c.key-k.ensures ∙ ap (λ (d : ℕ). key d 0) c.dim-top.ensures in
    let place_is : c.place_of.result.0 ≡ place (c.args.book.now) (key (dim (c.args.book.now)) 0) =
    c.place_of.ensures ∙ ap (place (c.args.book.now)) (key-is) in
    let count-is : c.count.result ≡ count (c.args.book.now) (dim (c.args.book.now)) =
    c.count.ensures ∙ ap (count (c.args.book.now)) c.dim-top.ensures in
    let total-is : c.total.result ≡ total (c.args.book.now) (key (dim (c.args.book.now)) 0) =
    c.total.ensures ∙ ap (total (c.args.book.now)) (key-is) in
    omega (arith, place_is, count-is, total-is, cells-inside (c.args.book.now) c.requires.0)

pub key-k-requires : goal.key-k-requires
key-k-requires c = (rw c.dim-top.ensures (framed c.args.book.now c.requires.0).high, omega arith)

pub overflow_add-first : goal.overflow_add-first
overflow_add-first c =
    omega (arith, offsets-inside c, c.well_formed)

pub overflow_add-first-2 : goal.overflow_add-first-2
overflow_add-first-2 c =
    omega (arith, offsets-inside c, c.well_formed)

pub overflow_add-end : goal.overflow_add-end
overflow_add-end c =
    omega (arith, inside c, c.well_formed)

pub offset_bounds-book-first : goal.offset_bounds-book-first
offset_bounds-book-first c =
    omega (arith, inside c, c.well_formed)

pub returns : goal.returns
returns c =
    let key-is : c.key-k.result ≡ key (dim (c.args.book.now)) 0 =
    c.key-k.ensures ∙ ap (λ (d : ℕ). key d 0) c.dim-top.ensures in
    let place_is : c.place_of.result.0 ≡ place (c.args.book.now) (key (dim (c.args.book.now)) 0) =
    c.place_of.ensures ∙ ap (place (c.args.book.now)) (key-is) in
    let count-is : c.count.result ≡ count (c.args.book.now) (dim (c.args.book.now)) =
    c.count.ensures ∙ ap (count (c.args.book.now)) c.dim-top.ensures in
    let total-is : c.total.result ≡ total (c.args.book.now) (key (dim (c.args.book.now)) 0) =
    c.total.ensures ∙ ap (total (c.args.book.now)) (key-is) in
    let t = c in
    let s = t in
    let ws = s.args.book.now in
    let k = key (dim ws) 0 in
    let z : place ws k + count ws (dim ws) + 1 + total ws k - (place ws k + count ws (dim ws) + 1) ≡ total ws k = omega arith in
    rw (place_is, count-is, total-is, z) (sym (cells_are ws s.requires.0 s.requires.1))

pub slice_bounds-result-end : goal.slice_bounds-result-end
slice_bounds-result-end c = omega (arith, inside c)
