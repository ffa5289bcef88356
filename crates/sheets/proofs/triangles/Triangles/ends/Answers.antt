-- The row of a relation, by its key.
use Rattle.rules.specs.Book.{key}
use Rattle.rules.specs.Sheet.{ends_at}
use Rattle.sheets.proofs.triangles.Triangles.ends.Goals as goal

pub row-requires-clause-below : goal.row-requires-clause-below
unfolding key
row-requires-clause-below c = rw c.args.self.now.ends_key c.requires

pub returns : goal.returns
unfolding ends_at
returns c = cc
