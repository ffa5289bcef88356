-- An offset is read from the relation's place on.
use Rattle.rows.proofs.Walked.{offset_read}
use Rattle.rows.proofs.Relation.offset.Goals as goal

pub returns : goal.returns
returns c =
    let r = c.args.self in
    offset_read r.book.now r.key r.at.0 r.placed c.args.i c.word.result c.word.ensures
