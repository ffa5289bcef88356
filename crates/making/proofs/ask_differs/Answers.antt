-- Only x = 1 and x = 2 can differ; what the ask ends with is found from word 1 alone.
use mathlib.Core.Path.{sym, ◌∙◌}
use native.Mathlib.Omega.{arith}
use Rattle.rules.proofs.FrameRule.{framed}
use Rattle.making.proofs.Differing.{goal-is, maskable, any-first, any-second}
use Rattle.making.proofs.ask_differs.Goals as goal

pub key-requires : goal.key-requires
key-requires c =
    let p = c.requires in
    let h = (framed _ p.0.frame).high in
    (omega (arith, h, p.1.0), omega (arith, h, p.1.1))

pub mask_with-goal-requires : goal.mask_with-goal-requires
mask_with-goal-requires c = let p = c.requires in maskable _ _ _ _ _ _ c.dim.ensures c.word.ensures c.key.ensures p.0 p.1.0 p.1.1

pub returns-then-apart : goal.returns-then-apart
returns-then-apart c =
    let g = goal-is _ _ _ _ _ _ c.dim.ensures c.word.ensures c.key.ensures _ c.mask_with-goal.ensures in
    any-first _ c.requires.0 _ _ _ g (sym c.if-apart.true ∙ c.apart.ensures)

pub returns : goal.returns
returns c =
    let g = goal-is _ _ _ _ _ _ c.dim.ensures c.word.ensures c.key.ensures _ c.mask_with-goal.ensures in
    any-second _ c.requires.0 _ _ _ g (sym c.if-apart.false ∙ c.apart.ensures) _ c.apart-2.ensures
