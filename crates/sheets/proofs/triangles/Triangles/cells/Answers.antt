-- The row of a relation, by its key.
use Rattle.rules.specs.Book.{key}
use Rattle.rules.specs.Sheet.{cells_at}
use Rattle.sheets.proofs.triangles.Triangles.cells.Goals as goal

pub row-requires-clause-below : goal.row-requires-clause-below
unfolding key
row-requires-clause-below c = rw c.args.self.now.cells_key c.requires

pub returns : goal.returns
unfolding cells_at
returns c = cc
