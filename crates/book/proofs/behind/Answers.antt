-- A relation held takes its offsets and its indices, and any other takes no word.
use native.Mathlib.Omega.{arith}
use Rattle.rules.proofs.AnyWords.{place-low, place-behind, place-passed}
use Rattle.book.proofs.Flags.{off, on}
use Rattle.book.proofs.behind.Goals as goal

pub returns-then-not-held : goal.returns-then-not-held
returns-then-not-held c =
    let a = c.args in
    place-passed a.book.now a.k a.at.0 c.requires.1 (off c.held.ensures c.if-not-held.true)

pub overflow_add-last : goal.overflow_add-last
overflow_add-last c = omega (arith, place-low c.args.book.now (λ i. (c.type_inv.book i).fits) c.args.k)

pub overflow_add-result : goal.overflow_add-result
overflow_add-result c = omega (arith, place-low c.args.book.now (λ i. (c.type_inv.book i).fits) c.args.k)

pub overflow_add-result-2 : goal.overflow_add-result-2
overflow_add-result-2 c = omega (arith, place-low c.args.book.now (λ i. (c.type_inv.book i).fits) c.args.k)

pub returns : goal.returns
returns c =
    let a = c.args in
    place-behind a.book.now a.k a.at.0 c.requires.1 c.count.result c.word.result (on c.held.ensures c.if-not-held.false) c.count.ensures c.word.ensures
