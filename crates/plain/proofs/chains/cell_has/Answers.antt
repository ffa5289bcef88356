-- Four words are the cell, and three members the set.
use Rattle.std.proofs.Common.{◌∙◌}
use Rattle.plain.proofs.Held.{all_held}
use Rattle.plain.proofs.chains.cell_has.Goals as goal

pub returns : goal.returns
returns c =
    let a = c.args in
    let p = c.requires in
    c.all_three.ensures
    ∙ all_held a.cells.now a.size a.b p.cell.0.0 p.cell.0.1 p.cell.1 a.set.now p.set.0 p.set.1 _ _ _ c.one_of.ensures c.one_of-2.ensures c.one_of-3.ensures
