-- Where the length is right, at most seven bits stand after the last vertex, and past the end there is none.
use mathlib.Core.Path.{◌≡◌, sym, ◌∙◌}
use lib.ListN.{length}
use Rattle.rules.specs.File.{file_dim, file_cells, length_of}
use Rattle.rules.proofs.Head.{head-dim, head-cells, head-length}
use Rattle.rules.proofs.Padded.{pad-field}
use Rattle.dayfile.proofs.faults.bits_after.Goals as goal

pub returns : goal.returns
returns c =
    let f = c.args.file.now in
    let p = c.requires in
    let l : length f ≡ length_of (file_dim f) (file_cells f) = p.1 ∙ rw p.0 (head-length f) in
    rw (c.read_field.ensures, c.end_bit.ensures, p.0, head-dim f, head-cells f) (sym (pad-field f l))
