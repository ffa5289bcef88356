-- "mesh", D, the counts and the newline.
use Rattle.report.proofs.Texts.{put-mesh-line}
use Rattle.report.proofs.put_mesh.Goals as goal

pub returns : goal.returns
returns c = put-mesh-line c.args.book.now c.dim.result c.dim.ensures c.put_text.ensures c.put_field.ensures c.put_counts.ensures c.put_byte.ensures
