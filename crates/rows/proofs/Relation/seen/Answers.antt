-- What was met, and for D→0, where no offset is bad, the lower of it and of the row that repeats an earlier one.
use mathlib.Core.Path.{◌≡◌, sym, ap, subst, ◌∙◌}
use Prim.Native.Nat.{ℕ, ◌/◌, ◌<◌, min}
use native.Mathlib.Omega.{arith}
use Rattle.rules.specs.Book.{dim, count, key}
use Rattle.rules.proofs.FrameRule.{framed}
use Rattle.rows.specs.Seen.{SeenIn}
use Rattle.rows.proofs.Cells.{other-seen, early-seen, late-fine, cells-seen}
use Rattle.rows.proofs.Relation.seen.Goals.{Else-self-key}
use Rattle.rows.proofs.Relation.seen.Goals as goal

pub key-requires : goal.key-requires
key-requires c = (omega (arith, c.dim.ensures, (framed c.args.self.book.now c.requires.framed).high), omega arith)

pub returns-then-self-key : goal.returns-then-self-key
returns-then-self-key c =
    let r = c.args.self in
    let e : c.key.result ≡ key (dim r.book.now) 0 = c.key.ensures ∙ ap (λ (d : ℕ). key d 0) c.dim.ensures in
    other-seen r.book.now r.key c.requires (λ z. c.if-self-key.true (z ∙ sym e)) _ c.rows_seen-seen.ensures

pub returns-then-seen-n : goal.returns-then-seen-n
returns-then-seen-n c =
    let r = c.args.self in
    early-seen r.book.now r.key _ (omega (arith, c.if-seen-n.true, c.rows-n.ensures.value)) c.rows_seen-seen.ensures

top : (c : Else-self-key) → c.args.self.key ≡ key (dim c.args.self.book.now) 0
top c = c.if-self-key.false ∙ c.key.ensures ∙ ap (λ (d : ℕ). key d 0) c.dim.ensures

pub cell_again-requires : goal.cell_again-requires
cell_again-requires c =
    let r = c.args.self in
    let late : count r.book.now (r.key / 4) < c.rows_seen-seen.result = omega (arith, c.rows-n.ensures.value) in
    record { whole = record { stands = c.requires; fine = late-fine r.book.now r.key _ late c.rows_seen-seen.ensures }; cells = top (goal.at.cell_again-requires c).Else-self-key }

pub returns : goal.returns
returns c =
    let r = c.args.self in
    let late : count r.book.now (r.key / 4) < c.rows_seen-seen.result = omega (arith, c.rows-n.ensures.value) in
    subst (SeenIn r.book.now r.key) (sym (c.min.ensures ∙ ap (min c.rows_seen-seen.result) c.cell_again.ensures))
    (cells-seen r.book.now r.key c.requires (top (goal.at.returns c).Else-self-key) c.rows_seen-seen.result late c.rows_seen-seen.ensures)
