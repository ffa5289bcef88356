-- The row of a relation, by its key.
use Rattle.rules.specs.Book.{key}
use Rattle.rules.specs.Sheet.{edges_of}
use Rattle.sheets.proofs.triangles.Triangles.edges.Goals as goal

pub row-requires-clause-below : goal.row-requires-clause-below
unfolding key
row-requires-clause-below c = rw c.args.self.now.edges_key c.requires

pub returns : goal.returns
unfolding edges_of
returns c = cc
