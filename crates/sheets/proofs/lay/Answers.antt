-- The edges that were listed are the rim's.
use mathlib.Core.Path.{refl}
use mathlib.Core.List.{[]}
use native.Mathlib.Omega.{arith}
use lib.ListN.{length, replicate}
use Rattle.cells.specs.Listed.{Listed}
use Rattle.rules.specs.Sheet.{rim_edges_of}
use Rattle.sheets.proofs.Answered.{twenty-nine, refused}
use Rattle.sheets.proofs.lay.Goals as goal
use Rattle.sheets.proofs.lay.Goals.{After-list_rim-n}

-- the edges that are listed
rim-listed : (c : After-list_rim-n) → Listed 12288 (rim_edges_of c.args.book.now) c.list_rim-n.result (replicate 12288 0) c.list_rim-n.new.list
rim-listed c = rw c.of.ensures at c.list_rim-n.ensures

pub returns-then-n-gt4096 : goal.returns-then-n-gt4096
returns-then-n-gt4096 c =
    let h = twenty-nine c.args.book.now (length c.args.across.now) (length c.args.rim.now) (length c.args.rim_vertices.now) (length c.args.rim_edges.now) c.requires (omega (arith, c.if-n-gt4096.true, (rim-listed (goal.at.returns-then-n-gt4096 c).After-list_rim-n).many)) in
    refused c.args.book.now c.args.across.now c.args.rim.now c.args.rim_vertices.now c.args.rim_edges.now 29 [] h refl refl
