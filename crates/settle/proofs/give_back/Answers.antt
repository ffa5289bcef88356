-- The relations named are brought down, the head is set, and zeros follow.
use mathlib.Core.Path.{◌≡◌, refl, ◌∙◌}
use native.Mathlib.Omega.{arith}
use lib.ListN.{length}
use Rattle.settle.proofs.Placed.{headed-head}
use Rattle.settle.proofs.Lowering.{given-back}
use borrow.Author.Rules.{rules}
use Rattle.settle.proofs.give_back.Goals as goal

pub returns : goal.returns
returns c = let s = c in
    let k = c.keep_only-end.ensures in
    let five : length s.args.head ≡ 5 = search rules in
    let e = c.set_head.ensures ∙ headed-head s.args.head c.keep_only-end.new.book five (omega (arith, k.size, k.place, k.fits)) in
    c.clear.ensures ∙ given-back s.args.head _ _ _ _ _ five refl k e
