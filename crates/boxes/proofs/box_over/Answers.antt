-- In each turn the box is lent to `grow` and comes back grown by the next vertex; where none is left, its ends are those of the rules.
use Rattle.std.proofs.Common.{◌+◌, ◌<◌, ◌∙◌, length, arith}
use Rattle.boxes.proofs.Growing.{behind-first, next-behind, grown-next, grown-last}
use Rattle.boxes.proofs.box_over.Goals as goal

pub loop-v-preserved : goal.loop-v-preserved
loop-v-preserved c =
    let vs = c.args.vertices.now in
    let i = c.loop-v.v-index in
    let n = behind-first vs c.requires.1 in
    let l : i + 1 < length vs = omega arith in
    rw (c.grow.ensures, c.point-in-loop-v.ensures, next-behind vs i l) (grown-next c.args.axes c.args.coordinates.now c.loop-v.bounds vs (i + 1) l ∙ c.loop-v.invariant)

pub returns : goal.returns
returns c =
    let vs = c.args.vertices.now in
    let n = behind-first vs c.requires.1 in
    grown-last c.args.axes c.args.coordinates.now c.loop-v.bounds vs (c.loop-v.v-index + 1) (omega arith) c.loop-v.invariant c.requires.1
