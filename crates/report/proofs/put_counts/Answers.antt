-- The counts of the dimensions below d are put; d goes up to D.
use mathlib.Core.Path.{◌≡◌}
use Prim.Native.Nat.{ℕ, ◌+◌, ◌*◌, ◌≤◌}
use native.Mathlib.Omega.{arith}
use Rattle.rules.specs.Lists.{up_to}
use Rattle.rules.specs.Book.{dim, count}
use Rattle.rules.proofs.AnyWords.{dim-most}
use Rattle.report.specs.Lines.{digits, spaced}
use Rattle.report.proofs.Putting.{puts-none, puts-wide}
use Rattle.report.proofs.Texts.{put-spaced}
use Rattle.report.proofs.put_counts.Goals.{After-dim-d-end}
use Rattle.report.proofs.put_counts.Goals as goal

-- D is at most 3
low : (c : After-dim-d-end) → c.dim-d-end.result ≤ 3
low c = omega (arith, c.dim-d-end.ensures, dim-most c.args.book.now (λ i. (c.type_inv.book i).fits))

pub overflow_add-d-end : goal.overflow_add-d-end
overflow_add-d-end c = omega (arith, low c)

pub loop-d-init : goal.loop-d-init
loop-d-init c = unfold spaced up_to in puts-none _

pub put_field-requires : goal.put_field-requires
put_field-requires c = omega (arith, low (goal.at.put_field-requires c).After-dim-d-end, c.loop-d.invariant.put.place, c.loop-d.invariant.put.short)

pub loop-d-preserved : goal.loop-d-preserved
loop-d-preserved c =
    let ws = c.args.book.now in
    let p = put-spaced (λ (e : ℕ). digits (count ws e)) c.loop-d.d c.loop-d.invariant (rw c.count.ensures at c.put_field.ensures) in
    puts-wide (11 * (c.loop-d.d + 1)) (omega (arith, p.put.short)) p

pub returns : goal.returns
returns c =
    let e : c.loop-d.d ≡ dim c.args.book.now + 1 = omega (arith, c.dim-d-end.ensures) in
    rw e at (puts-wide 44 (omega (arith, c.loop-d.invariant.put.short, low (goal.at.returns c).After-dim-d-end)) c.loop-d.invariant)
