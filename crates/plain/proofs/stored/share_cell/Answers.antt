-- None of the cells so far has both.
use Rattle.std.proofs.Common.{◌≡◌, ◌-◌, ◌*◌, ◌+◌, sym, ◌∙◌, arith, take, drop}
use mathlib.Core.Bool.{◌&&◌}
use Rattle.rules.specs.Lists.{has}
use Rattle.plain.specs.Cells.{cell_at}
use Rattle.plain.proofs.Before.{any-before, found-before, none_before}
use Rattle.plain.proofs.Taken.{any-has}
use Rattle.plain.proofs.stored.share_cell.Goals as goal

pub loop-b-init : goal.loop-b-init
loop-b-init c = none_before c.args.size c.args.cells.now _

pub returns-then-has_both : goal.returns-then-has_both
unfolding cell_at
returns-then-has_both c =
    let a = c.args in
    let first = c.loop-b.b * a.size in
    let e : first + a.size - first ≡ a.size = omega arith in
    let cell = take (first + a.size - first) (drop first a.cells.now) in
    sym (found-before a.size a.cells.now (λ s. has a.u s && has a.v s) c.loop-b.b a.n c.loop-b-test.true
    (sym (rw (any-has a.u cell, any-has a.v cell, e) at c.has_both.ensures) ∙ c.if-has_both.true))

pub loop-b-preserved : goal.loop-b-preserved
unfolding cell_at
loop-b-preserved c =
    let a = c.args in
    let first = c.loop-b.b * a.size in
    let e : first + a.size - first ≡ a.size = omega arith in
    let cell = take (first + a.size - first) (drop first a.cells.now) in
    any-before a.size a.cells.now (λ s. has a.u s && has a.v s) c.loop-b.b c.loop-b.invariant
    (sym (rw (any-has a.u cell, any-has a.v cell, e) at c.has_both.ensures) ∙ c.if-has_both.false)
