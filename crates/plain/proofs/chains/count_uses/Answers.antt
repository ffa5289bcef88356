-- The words so far are counted.
use Rattle.std.proofs.Common.{◌≡◌, ◌∙◌, ap, arith, rules, length, replicate}
use Rattle.plain.proofs.Uses.{counted_none, few, counted-more}
use Rattle.plain.proofs.chains.count_uses.Goals as goal

pub loop-word-init : goal.loop-word-init
loop-word-init c =
    let l : length c.args.many.now ≡ 8192 = search rules in
    let z : c.fill.new.self ≡ replicate 8192 0 = c.fill.ensures.after (λ y k. search rules) ∙ ap (λ n. replicate n 0) l in
    counted_none _ _ z (ap length z)

pub overflow_add-many : goal.overflow_add-many
overflow_add-many c =
    let l = c.loop-word-test.true in
    omega (arith, few c.loop-word.invariant l (c.requires.below c.loop-word.word-index l), c.requires.few)

pub loop-word-preserved : goal.loop-word-preserved
loop-word-preserved c =
    let l = c.loop-word-test.true in
    counted-more c.loop-word.invariant l (c.requires.below c.loop-word.word-index l)
