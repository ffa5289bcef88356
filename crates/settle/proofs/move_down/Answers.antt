-- A copy within the book is what the words brought down are.
use mathlib.Core.Path.{◌∙◌}
use mathlib.Core.List.{append_assoc}
use Prim.Native.Nat.{◌+◌, ◌-◌}
use lib.ListN.{take, drop}
use Rattle.settle.specs.Settled.{lowered}
use Rattle.settle.proofs.move_down.Goals as goal

pub returns-clause-words : goal.returns-clause-words
unfolding lowered
returns-clause-words c =
    let a = c.args in
    let n = a.end.0 - a.from.0 in
    c.copy_within.ensures.after ∙ append_assoc (take a.to.0 a.book.now) (take n (drop a.from.0 a.book.now)) (drop (a.to.0 + n) a.book.now)
