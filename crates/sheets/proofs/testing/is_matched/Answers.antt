-- The edges are counted, and each is asked whether it lists the cell.
use mathlib.Core.Path.{◌≡◌, sym, ap, ◌∙◌}
use Prim.Native.Nat.{◌<◌}
use native.Mathlib.Omega.{arith}
use lib.ListN.{length, get_or}
use borrow.Author.Rules.{rules}
use borrow.Author.Tests.{tests}
use Rattle.std.proofs.lemmas.Iterator.{YieldsList-from_slice}
use Rattle.std.proofs.lemmas.Iterator.Adapters.{serves_from_places}
use Rattle.std.proofs.lemmas.Iterator.Search.{all_from_yields_List}
use Rattle.std.specs.List.{list_all}
use Rattle.rules.proofs.Tests.{get_or-inside}
use Rattle.rules.specs.Lists.{has}
use Rattle.rules.specs.Book.{count}
use Rattle.rules.specs.Sheet.{edges_of, cells_at}
use Rattle.sheets.proofs.Looked.{too_few, matched-is, edge-low}
use Rattle.sheets.proofs.testing.is_matched.Goals as goal

pub returns-then-edges-ne3 : goal.returns-then-edges-ne3
returns-then-edges-ne3 c = too_few c.args.triangles.now.book.now c.args.c (λ e. c.if-edges-ne3.true (ap length c.edges-edges.ensures ∙ e))

pub all-requires-clause-callable : goal.all-requires-clause-callable
all-requires-clause-callable c =
    let ws = c.args.triangles.now.book.now in
    serves_from_places (YieldsList-from_slice (edges_of ws c.args.c) cc) (λ x q h. search rules) (λ x k l e.
    let q : x.now ≡ get_or (edges_of ws c.args.c) k 0 = e ∙ get_or-inside (edges_of ws c.args.c) k x.now 0 l in
    let low : x.now < count ws 1 = omega (arith, q, edge-low ws c.args.triangles.now.flat c.args.c c.requires k l) in
    search rules)

pub returns : goal.returns
returns c =
    let ws = c.args.triangles.now.book.now in
    let row = edges_of ws c.args.c in
    let e : c.all.result ≡ list_all (λ k. has c.args.c (cells_at ws k)) row = all_from_yields_List (λ k. has c.args.c (cells_at ws k)) _ _ _ c.all.ensures.ran (YieldsList-from_slice row cc) (λ x b q k. search (rules, tests)) in
    e ∙ matched-is ws c.args.c (sym (ap length c.edges-edges.ensures) ∙ c.if-edges-ne3.false)
