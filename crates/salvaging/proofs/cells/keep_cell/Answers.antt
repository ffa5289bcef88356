-- A cell that is cut off leaves all as it was; another is read, looked for, and put down where it is kept.
use mathlib.Core.Path.{◌≡◌, refl, sym, ap, ◌∙◌}
use mathlib.Core.List.{append-nil}
use Prim.Native.Nat.{ℕ, ◌+◌}
use native.Mathlib.Omega.{arith}
use lib.ListN.{take}
use Rattle.rules.specs.File.{file_dim, file_cell, head_dim}
use Rattle.rules.proofs.Head.{head-dim}
use Rattle.dayfile.specs.Numbers.{numbers}
use Rattle.dayfile.proofs.Four.{cell-front, cell-rest}
use Rattle.salvaging.specs.Looked.{four_of}
use Rattle.salvaging.proofs.Looking.{why-cut, looked-same}
use Rattle.salvaging.specs.Reasons.{why_number}
use Rattle.salvaging.proofs.Whys.{none-number}
use Rattle.salvaging.proofs.cells.keep_cell.Goals as goal
use Rattle.salvaging.proofs.cells.keep_cell.Goals.{After-corners-n, After-dimension, After-in_file-v}

corners-are : (c : After-corners-n) → c.corners-n.result ≡ file_dim c.args.file.now.bytes.now + 1
corners-are c = c.corners-n.ensures.corners ∙ ap (λ (h : ℕ). head_dim h + 1) c.args.file.now.head_is ∙ ap (λ (d : ℕ). d + 1) (head-dim c.args.file.now.bytes.now)

dimension-is : (c : After-dimension) → c.dimension.result ≡ file_dim c.args.file.now.bytes.now
dimension-is c = c.dimension.ensures ∙ ap head_dim c.args.file.now.head_is ∙ head-dim c.args.file.now.bytes.now

front : (c : After-in_file-v) → take (file_dim c.args.file.now.bytes.now + 1) (numbers c.in_file-v.result) ≡ file_cell c.args.file.now.bytes.now c.args.c
front c = rw c.in_file-v.ensures (cell-front c.args.file.now.bytes.now c.args.c _)

pub returns-then-is_cut : goal.returns-then-is_cut
returns-then-is_cut c =
    let w = why-cut c.args.file.now.bytes.now c.args.c (sym c.is_cut.ensures ∙ c.if-is_cut.true) in
    record { why = sym w; seen = looked-same c.requires.seen (λ z. omega (arith, w)); vertices = sym (append-nil _) }

pub in_file-v-requires : goal.in_file-v-requires
in_file-v-requires c = dimension-is (goal.at.in_file-v-requires c).After-dimension

pub ascending-row-requires : goal.ascending-row-requires
ascending-row-requires c = c.corners-n.ensures.few

pub look-why-requires : goal.look-why-requires
unfolding four_of
look-why-requires c =
    let f = c.args.file.now.bytes.now in
    record {
      whole = (c.requires.cell, sym c.is_cut.ensures ∙ c.if-is_cut.false);
      row = c.ascending-row.ensures ∙ rw (corners-are (goal.at.look-why-requires c).After-corners-n, front (goal.at.look-why-requires c).After-in_file-v, c.in_file-v.ensures, cell-rest f c.args.c);
      seen = c.requires.seen;
    }

pub put_kept-requires : goal.put_kept-requires
put_kept-requires c = record {
  few = c.corners-n.ensures.few;
  room = omega (arith, c.requires.seen.few);
}

pub returns-then-is_none-clause-vertices : goal.returns-then-is_none-clause-vertices
returns-then-is_none-clause-vertices c =
    let d = corners-are (goal.at.returns-then-is_none-clause-vertices c).After-corners-n in
    let q = front (goal.at.returns-then-is_none-clause-vertices c).After-in_file-v in
    let z : why_number c.look-why.result ≡ 0 = none-number c.look-why.result (c.is_none.ensures ∙ rw c.if-is_none.true refl) in
    let k : c.look-why.new.self.count ≡ c.args.seen.now.count + 1 = rw z at c.look-why.ensures.count in
    rw (k, z) (rw (d, q) at c.put_kept.ensures)
