-- The short part is set aside, the other is moved past it, and the short part is put back.
use native.Mathlib.Omega.{arith}
use Rattle.settle.proofs.Settling.{few-before, few-behind, saved-part, put-part}
use Rattle.settle.proofs.settle_few.Goals as goal

pub returns-then-before-le64 : goal.returns-then-before-le64
returns-then-before-le64 c =
    let r = c.requires in
    few-before _ _ _ _ r.0.order r.1.0.order r.1.0.inside _ _ _ _ c.move_down-to.ensures.words c.move_down-to.ensures.place
    (saved-part _ _ _ _ (omega arith) c.saved-words.ensures) (put-part _ _ _ _ _ (omega arith) c.put_back.ensures)

pub returns-else-before-le64 : goal.returns-else-before-le64
returns-else-before-le64 c =
    let r = c.requires in
    few-behind _ _ _ _ r.0.order r.1.0.order r.1.0.inside _ _ _ (saved-part _ _ _ _ (omega arith) c.saved-words-else-before-le64.ensures) c.move_up.ensures
    (put-part _ _ _ _ _ (omega arith) c.put_back-else-before-le64.ensures)
