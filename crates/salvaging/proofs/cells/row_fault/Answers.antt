-- Two tests, in their order.
use mathlib.Core.Path.{◌≡◌, sym, ◌∙◌}
use Prim.Native.Nat.{◌+◌}
use lib.ListN.{take}
use Rattle.rules.specs.File.{out_of, twice, head_dim, head_vertices}
use Rattle.rules.specs.Calls.{first_broken}
use Rattle.dayfile.specs.Numbers.{numbers}
use Rattle.salvaging.specs.Looked.{row_fault}
use Rattle.salvaging.proofs.cells.row_fault.Goals as goal

pub returns-then-out_of : goal.returns-then-out_of
unfolding row_fault first_broken
returns-then-out_of c =
    let out-is : c.out_of.result ≡ out_of (head_vertices c.args.head.0) (take (head_dim c.args.head.0 + 1) (numbers c.args.row)) =
    c.out_of.ensures ∙ rw c.corners-n.ensures.corners in
    rw (sym (out-is) ∙ c.if-out_of.true)

pub returns-then-named_twice : goal.returns-then-named_twice
unfolding row_fault first_broken
returns-then-named_twice c =
    let out-is : c.out_of.result ≡ out_of (head_vertices c.args.head.0) (take (head_dim c.args.head.0 + 1) (numbers c.args.row)) =
    c.out_of.ensures ∙ rw c.corners-n.ensures.corners in
    let twice-is : c.named_twice.result ≡ twice (take (head_dim c.args.head.0 + 1) (numbers c.args.row)) =
    c.named_twice.ensures ∙ rw c.corners-n.ensures.corners in
    rw (sym (out-is) ∙ c.if-out_of.false, sym (twice-is) ∙ c.if-named_twice.true)

pub returns : goal.returns
unfolding row_fault first_broken
returns c =
    let out-is : c.out_of.result ≡ out_of (head_vertices c.args.head.0) (take (head_dim c.args.head.0 + 1) (numbers c.args.row)) =
    c.out_of.ensures ∙ rw c.corners-n.ensures.corners in
    let twice-is : c.named_twice.result ≡ twice (take (head_dim c.args.head.0 + 1) (numbers c.args.row)) =
    c.named_twice.ensures ∙ rw c.corners-n.ensures.corners in
    rw (sym (out-is) ∙ c.if-out_of.false, sym (twice-is) ∙ c.if-named_twice.false)
