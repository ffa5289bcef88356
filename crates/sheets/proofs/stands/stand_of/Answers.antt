-- A relation that is held has room for its offsets.
use mathlib.Core.Path.{◌≡◌, ap}
use Prim.Native.Nat.{◌+◌, ◌≤◌}
use native.Mathlib.Omega.{arith}
use lib.ListN.{length}
use Rattle.rules.specs.Book.{place}
use Rattle.rules.proofs.FrameRule.{framed, room}
use Rattle.sheets.proofs.stands.stand_of.Goals.{After-count}
use Rattle.sheets.proofs.stands.stand_of.Goals as goal

inside : (c : After-count) → c.place_of-at.result.0 + c.count.result + 1 ≤ length c.words.result.now
inside c =
    let f = framed c.args.book.now c.words.ensures.right.frame in
    let e : c.place_of-at.result.0 ≡ place c.args.book.now c.args.k = cc in
    omega (arith, e, c.count.ensures, room c.args.book.now f c.args.k c.requires, f.fits, ap length c.words.ensures.words)

pub overflow_add-result : goal.overflow_add-result
overflow_add-result c = omega (arith, inside (goal.at.overflow_add-result c).After-count)

pub overflow_add-result-2 : goal.overflow_add-result-2
overflow_add-result-2 c = omega (arith, inside (goal.at.overflow_add-result-2 c).After-count)
