-- The first n vertices of the list are those in some cell; where n is 0 there are none.
use mathlib.Core.Path.{◌≡◌, sym, ap, ◌∙◌}
use native.Mathlib.Omega.{arith}
use lib.ListN.{length, take, length-take}
use Rattle.rules.specs.Boxes.{box_over, whole_box}
use Rattle.boxing.proofs.Ready.{no-box}
use Rattle.boxing.proofs.mesh_box.Goals as goal

pub returns-then-n-eq0 : goal.returns-then-n-eq0
returns-then-n-eq0 c =
    no-box c.args.book.now c.args.coordinates.now c.args.axes (sym (rw c.words.ensures.words at c.list_used-n.ensures.many) ∙ c.if-n-eq0.true)

pub slice_bounds-used-end : goal.slice_bounds-used-end
slice_bounds-used-end c =
    let fronted : length (take c.list_used-n.result c.list_used-n.new.list) ≡ c.list_used-n.result =
    let l = c.list_used-n.ensures in ap length l.these ∙ sym l.many in
    omega (arith, fronted, length-take c.list_used-n.result c.list_used-n.new.list)

pub slice_bounds-box_over-end : goal.slice_bounds-box_over-end
slice_bounds-box_over-end c =
    let fronted : length (take c.list_used-n.result c.list_used-n.new.list) ≡ c.list_used-n.result =
    let l = c.list_used-n.ensures in ap length l.these ∙ sym l.many in
    sym (fronted)

pub box_over-requires : goal.box_over-requires
box_over-requires c =
    let fronted : length (take c.list_used-n.result c.list_used-n.new.list) ≡ c.list_used-n.result =
    let l = c.list_used-n.ensures in ap length l.these ∙ sym l.many in
    let s = c in
    (omega (arith, s.requires), rw (fronted) (omega (arith, c.if-n-eq0.false)))

pub returns : goal.returns
unfolding whole_box
returns c =
    c.box_over.ensures ∙ ap (box_over c.args.axes c.args.coordinates.now) (rw c.words.ensures.words at c.list_used-n.ensures.these)
