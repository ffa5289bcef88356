-- What is behind moves down, and zeros stand where it stood last.
use Rattle.settle.proofs.Lowering.{closed-up}
use Rattle.settle.proofs.close_up.Goals as goal

pub returns : goal.returns
returns c =
    let z = c in
    let m = z in
    let p = m.requires in
    let w = m.move_down-end.ensures in record { place = w.place; words = closed-up _ _ _ _ _ _ _ p.0.order p.0.inside p.1 w.place w.words z.zero.ensures }
