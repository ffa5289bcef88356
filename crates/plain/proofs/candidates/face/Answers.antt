-- The four faces of a tetrahedron.
use Rattle.std.proofs.Common.{◌≡◌, arith}
use Rattle.rules.specs.Lists.{choose}
use Rattle.plain.proofs.candidates.face.Goals as goal

pub returns-in-0 : goal.returns-in-0
unfolding choose
returns-in-0 c = rw c.in-0.is

pub returns-in-1 : goal.returns-in-1
unfolding choose
returns-in-1 c = rw c.in-1.is

pub returns-in-2 : goal.returns-in-2
unfolding choose
returns-in-2 c = rw c.in-2.is

pub returns-in_default : goal.returns-in_default
unfolding choose
returns-in_default c = let e : c.args.q ≡ 3 = omega arith in rw e
