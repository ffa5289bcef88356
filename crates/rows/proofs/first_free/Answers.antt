-- The invariant: the first free word that is not 0 lies behind the runs passed.
use mathlib.Core.Path.{◌≡◌, ap, ◌∙◌}
use mathlib.Core.Bool.{true, false}
use native.Mathlib.Omega.{arith}
use lib.ListN.{length, length-append}
use lib.Dec.{eqb}
use Rattle.std.specs.Slice.Iter.{chunks_rest}
use Rattle.rules.specs.Lists.{all_of, first_at}
use Rattle.rules.proofs.Searched.{first-most}
use Rattle.book.proofs.Flags.{off, on}
use Rattle.rows.proofs.Free.{set_word, run_passed, run-found}
use Rattle.rows.proofs.first_free.Goals as goal

pub loop-run-preserved : goal.loop-run-preserved
loop-run-preserved c =
    let run = c.in-Some.run'.now in
    let left = chunks_rest c.next.new.self in
    let s = c.in-Some.ensures.steps in
    let i = c.loop-run.invariant in
    let z : all_of (eqb 0) run ≡ true = on c.zeros.ensures c.if-not-zeros.false in
    (omega (arith, s.0, i.0), (tt, (omega (arith, i.1.1.0, ap length s.1.0 ∙ length-append run left), omega (arith, i.1.1.1, ap (first_at set_word) s.1.0 ∙ run_passed run left z))))

pub overflow_add-result : goal.overflow_add-result
overflow_add-result c =
    let run = c.in-Some.run'.now in
    let s = c.in-Some.ensures.steps in
    omega (arith, c.loop-run.invariant.1.1.0, c.first_set.ensures, first-most set_word 0 run, ap length s.1.0 ∙ length-append run (chunks_rest c.next.new.self))

pub returns-then-not-zeros : goal.returns-then-not-zeros
returns-then-not-zeros c =
    let run = c.in-Some.run'.now in
    let left = chunks_rest c.next.new.self in
    let s = c.in-Some.ensures.steps in
    let z : all_of (eqb 0) run ≡ false = off c.zeros.ensures c.if-not-zeros.true in
    rw (← c.word-used.ensures) (omega (arith, c.loop-run.invariant.1.1.1, c.first_set.ensures, ap (first_at set_word) s.1.0 ∙ run-found run left z))

pub returns : goal.returns
returns c =
    let left = chunks_rest c.loop-run.run-iterator in
    rw (← c.word-used.ensures) (omega (arith, c.loop-run.invariant.1.1.1, c.in-None.ensures.steps.1.0, first-most set_word 0 left))
