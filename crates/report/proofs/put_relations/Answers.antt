-- The lines of the relations held with keys below k are put.
use mathlib.Core.Path.{◌≡◌}
use Prim.Native.Nat.{◌+◌, ◌*◌}
use native.Mathlib.Omega.{arith}
use Rattle.rules.specs.Lists.{up_to, keep, joined}
use Rattle.rules.specs.Book.{held, keys_held}
use Rattle.report.specs.Lines.{relation_line}
use Rattle.report.proofs.Putting.{puts-none, puts-wide}
use Rattle.report.proofs.Texts.{put-lines}
use Rattle.report.proofs.put_relations.Goals as goal

pub loop-k-init : goal.loop-k-init
loop-k-init c = unfold keep up_to joined in puts-none _

pub loop-k-preserved : goal.loop-k-preserved
loop-k-preserved c =
    let turn = c.loop-k in
    let ws = c.args.book.now in
    let p = put-lines (relation_line ws) (held ws) turn.k turn.invariant c.put_held.ensures in
    puts-wide (44 * (turn.k + 1)) (omega (arith, p.put.short)) p

pub returns : goal.returns
unfolding keys_held
returns c =
    let turn = c.loop-k in
    let e : turn.k ≡ 16 = omega arith in
    rw e at (puts-wide 704 (omega (arith, turn.invariant.put.short)) turn.invariant)
