-- Two that are equal are a vertex named twice; where every pair differs, none is.
use mathlib.Core.Path.{◌≡◌, sym, ◌∙◌}
use native.Mathlib.Omega.{arith}
use borrow.Author.Rules.{rules}
use lib.ListN.{length}
use Rattle.rules.proofs.Searched.{from_more, apart-all}
use Rattle.dayfile.specs.Numbers.{numbers}
use Rattle.dayfile.proofs.Numbers.{length-numbers, number_at}
use Rattle.dayfile.proofs.FourWords.{front-apart, front-twice}
use Rattle.salvaging.proofs.cells.named_twice.Goals as goal

pub returns-then-v-i : goal.returns-then-v-i
returns-then-v-i c =
    let v = c.args.v in
    let i = c.loop-i.i in
    let j = c.loop-j.j in
    let four : length (numbers v) ≡ 4 = rw length-numbers (search rules) in
    sym (front-twice (numbers v) c.args.n i j (omega (arith, four)) (omega arith) (omega arith) (number_at v i ∙ c.if-v-i.true ∙ sym (number_at v j)))

pub loop-j-preserved : goal.loop-j-preserved
loop-j-preserved c =
    let u = c.loop-j in
    let v = c.args.v in
    let i = c.loop-i.i in
    from_more (numbers v) i u.j u.invariant (λ e. c.if-v-i.false (sym (number_at v i) ∙ e ∙ number_at v u.j))

pub returns : goal.returns
returns c =
    let v = numbers c.args.v in
    let four : length v ≡ 4 = rw length-numbers (search rules) in
    sym (front-apart v c.args.n (omega (arith, four)) (apart-all v c.args.n (λ k l. c.loop-i.invariant k (omega arith))))
