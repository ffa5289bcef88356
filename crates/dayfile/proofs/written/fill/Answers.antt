-- The bytes are cleared, then the head and the vertices are written: the file's bits.
use mathlib.Core.Path.{◌≡◌, ◌∙◌}
use borrow.Author.Rules.{rules}
use lib.ListN.{length, replicate}
use Rattle.dayfile.proofs.Filled.{filled}
use Rattle.dayfile.proofs.written.fill.Goals as goal

pub returns : goal.returns
returns c =
    let a = c.args in
    let z : c.fill.new.self ≡ replicate (length a.bytes.now) 0 = c.fill.ensures.after (λ y k. search rules) in
    c.write_vertices.ensures ∙ rw (c.write_field.ensures, z) (filled (length a.bytes.now) a.head.0 a.vertices.now)
