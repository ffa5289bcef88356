-- Each of the three edges is asked for the other cell; three stores, one after another.
use mathlib.Core.Path.{◌≡◌, sym, ap, ◌∙◌}
use mathlib.Core.List.{List, [], ◌∷◌, map}
use Prim.Native.Nat.{ℕ, suc, ◌+◌, ◌*◌, ◌<◌}
use native.Mathlib.Numerals.{add-one}
use native.Mathlib.Omega.{arith}
use lib.ListN.{length, get_or, set}
use lib.Seq.{sets}
use Rattle.rules.specs.Book.{count}
use Rattle.rules.specs.Sheet.{edges_of, across_at}
use Rattle.rules.proofs.Numbered.{three-members}
use Rattle.rules.proofs.SheetAccepted.{three-edges}
use Rattle.sheets.proofs.Looked.{triple, edge-low}
use Rattle.sheets.proofs.others.put_across.Goals as goal
use Rattle.sheets.proofs.others.put_across.Goals.{After-edges-edges}

-- three stores
three-puts : (out : List ℕ) (at x y z : ℕ) → set (set (set out at x) (at + 1) y) (at + 2) z ≡ sets out at (x ∷ y ∷ z ∷ [])
three-puts out at x y z = let two : at + 2 ≡ suc (suc at) = omega arith in rw (add-one at, two)

-- three edges are there, and each is one
three : (c : After-edges-edges) → length c.edges-edges.result.now ≡ 3
three c = ap length c.edges-edges.ensures ∙ three-edges c.args.triangles.now.book.now c.requires.sheet c.args.c c.requires.below

an_edge : (c : After-edges-edges) (t : ℕ) → t < 3 → get_or c.edges-edges.result.now t 0 < count c.args.triangles.now.book.now 1
an_edge c t l =
    let n = three-edges c.args.triangles.now.book.now c.requires.sheet c.args.c c.requires.below in
    rw c.edges-edges.ensures (edge-low c.args.triangles.now.book.now c.args.triangles.now.flat c.args.c c.requires.below t (omega arith))

pub bounds-edges-0 : goal.bounds-edges-0
bounds-edges-0 c = omega (arith, three (goal.at.bounds-edges-0 c).After-edges-edges)

pub bounds-edges-1 : goal.bounds-edges-1
bounds-edges-1 c = omega (arith, three (goal.at.bounds-edges-1 c).After-edges-edges)

pub bounds-edges-2 : goal.bounds-edges-2
bounds-edges-2 c = omega (arith, three (goal.at.bounds-edges-2 c).After-edges-edges)

pub other-requires : goal.other-requires
other-requires c = an_edge (goal.at.other-requires c).After-edges-edges 0 (omega arith)

pub other-requires-2 : goal.other-requires-2
other-requires-2 c = an_edge (goal.at.other-requires-2 c).After-edges-edges 1 (omega arith)

pub other-requires-3 : goal.other-requires-3
other-requires-3 c = an_edge (goal.at.other-requires-3 c).After-edges-edges 2 (omega arith)

pub returns : goal.returns
returns c =
    let ws = c.args.triangles.now.book.now in
    let n = c.args.c in
    let es = edges_of ws n in
    let e = c.edges-edges.ensures in
    let row : map (across_at ws n) es ≡ c.other.result ∷ c.other-2.result ∷ c.other-3.result ∷ [] =
    ap (map (across_at ws n)) (three-members es (three-edges ws c.requires.sheet n c.requires.below)) ∙ sym (triple (rw e at c.other.ensures) (rw e at c.other-2.ensures) (rw e at c.other-3.ensures)) in
    three-puts c.args.out.now (3 * n) _ _ _ ∙ ap (sets c.args.out.now (3 * n)) (sym row)
