-- The line of a relation: its four fields, each put behind the last, and the newline.
use Rattle.report.proofs.Texts.{put-relation-line}
use Rattle.report.proofs.put_relation.Goals as goal

pub returns : goal.returns
returns c =
    let a = c.args in
    put-relation-line a.book.now a.k c.count.result c.total.result c.count.ensures c.total.ensures
    c.put_number.ensures c.put_field.ensures c.put_field-2.ensures c.put_field-3.ensures c.put_byte.ensures
