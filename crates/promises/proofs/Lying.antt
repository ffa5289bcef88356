-- Books that somebody else wrote: where the frame and the rows are right, Make, Ask, a list of asks and Drop leave them right; Drop takes out one relation alone, and what Make made, Drop takes out again.
use lib.ListN.{length}
use Rattle.rules.specs.Book.{Right}
use Rattle.rules.proofs.Accepted.{list-keep, drops, drop-accepted}
use Rattle.rules.proofs.RightAsk.{make-right, ask-right}
use Rattle.rules.proofs.RightDrop.{drop-right, dropped-gone, dropped-held, dropped-rows}
use Rattle.rules.proofs.MadeBack.{made-back}
use Rattle.promises.specs.Demand.{StaysRight, OneLess, MadeThenDropped}

pub stays-right : StaysRight
stays-right ws f r d e ps ns =
    let b : Right ws = record { frame = f; rows = r } in
    let m = make-right ws b d e in
    let a = ask-right ws b d e in
    let l = list-keep Right (λ vs x y h. ask-right vs h x y) ws ps ns b in
    let g = drop-right ws b d e in
    (m.frame, m.rows, a.frame, a.rows, l.frame, l.rows, g.frame, g.rows)

pub one_less : OneLess
one_less ws f r d e h =
    let g : Right ws = record { frame = f; rows = r } in
    let a = drops ws d e h in
    let n = length ws in
    rw (drop-accepted ws d e h) (dropped-gone ws g d e a n, λ k o. (dropped-held ws g d e a n k o, dropped-rows ws g d e a n k o))

pub made-then-dropped : MadeThenDropped
made-then-dropped ws f r d e h = made-back ws (record { frame = f; rows = r }) d e h
