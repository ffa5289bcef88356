-- The first index that is not below j stops the search where the leading ones end.
use mathlib.Core.Path.{◌≡◌, ◌∙◌}
use Prim.Native.Nat.{◌<◌}
use native.Mathlib.Omega.{arith}
use lib.ListN.{length}
use Rattle.rules.specs.Calls.{leading}
use Rattle.rules.proofs.Found.{leading-is, found-next, read_next, found_none, read_none}
use Rattle.reading.proofs.finds.search.Goals as goal

pub returns-then-j-index : goal.returns-then-j-index
returns-then-j-index c =
    let a = c.args in
    let turn = c.loop-read in
    let l : leading a.j a.row.now ≡ turn.read = leading-is a.j a.row.now turn.read turn.auto.read-end turn.invariant (λ _. omega arith) in
    let m : leading a.j a.row.now < length a.row.now = omega arith in
    record { yes = rw (found-next a.j a.row.now m, l); read = rw (read_next a.j a.row.now m, l) }

pub returns : goal.returns
returns c =
    let a = c.args in
    let turn = c.loop-read in
    let all : turn.read ≡ length a.row.now = omega arith in
    let l : leading a.j a.row.now ≡ length a.row.now = leading-is a.j a.row.now turn.read turn.auto.read-end turn.invariant (λ m. absurd (omega arith)) ∙ all in
    record { yes = rw (found_none a.j a.row.now l); read = rw (read_none a.j a.row.now l) }
