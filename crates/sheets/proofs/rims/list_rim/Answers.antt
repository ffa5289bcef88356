-- The invariant: those of the edges passed that are in exactly one cell stand at the front of the list.
use mathlib.Core.Path.{◌≡◌}
use mathlib.Core.Bool.{true}
use mathlib.Core.List.{List}
use Prim.Native.Nat.{ℕ, ◌*◌, ◌≤◌}
use borrow.Author.Rules.{rules}
use borrow.Author.Tests.{tests}
use native.Mathlib.Omega.{arith}
use lib.ListN.{length}
use lib.Dec.{eqb}
use Rattle.rules.specs.Book.{dim, count, most, frame_right}
use Rattle.rules.specs.Sheet.{cells_at, at_rim, rim_edges_of}
use Rattle.rules.proofs.FrameRule.{framed, count_most}
use Rattle.sheets.proofs.rims.list_rim.Goals as goal

-- there are at most three edges a cell
few-edges : (ws : List ℕ) → frame_right ws ≡ true → dim ws ≡ 2 → count ws 1 ≤ 12288
few-edges ws r two =
    let f = framed ws r in
    let m : count ws 1 ≤ 3 * count ws 2 = unfold most in rw two at (count_most ws f 1 (omega arith) (omega arith)) in
    let n : count ws 2 ≤ 4096 = rw two at f.cells in
    omega arith

pub list_passing-requires-clause-room : goal.list_passing-requires-clause-room
list_passing-requires-clause-room c =
    let f = c.args.triangles.now.flat in
    let room : length c.args.list.now ≡ 12288 = search rules in
    omega (arith, few-edges c.args.triangles.now.book.now f.frame f.two)

pub returns : goal.returns
unfolding rim_edges_of at_rim
returns c =
    let ws = c.args.triangles.now.book.now in
    let room : length c.args.list.now ≡ 12288 = search rules in
    rw (room, c.count.ensures) at (c.list_passing.ensures (λ k. eqb (length (cells_at ws k)) 1) (λ k l b h. search (rules, tests)))
