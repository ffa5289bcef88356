-- The definition's tests, one after another.
use mathlib.Core.Bool.{not}
use mathlib.Core.Path.{ap, ◌∙◌}
use Prim.Native.Nat.{ℕ}
use native.Mathlib.Omega.{arith}
use Rattle.rules.specs.Book.{named, mentions}
use Rattle.rules.proofs.FrameRule.{framed}
use Rattle.making.proofs.Differing.{differs-vertices, differs-cells, differs-unnamed, differs-found, findable}
use Rattle.making.proofs.differs.Goals as goal

pub returns-then-x-eq0 : goal.returns-then-x-eq0
returns-then-x-eq0 c = differs-vertices _ _ c.if-x-eq0.true

pub returns-then-x-top : goal.returns-then-x-top
returns-then-x-top c = differs-cells _ _ (omega (arith, c.dim-top.ensures, c.if-x-top.true))

pub mentions-requires : goal.mentions-requires
mentions-requires c = omega (arith, (framed _ c.requires.frame).high, c.dim-top.ensures, c.if-x-top.false)

pub returns-then-not-mentions : goal.returns-then-not-mentions
returns-then-not-mentions c =
    let x = c.args.x in
    let e = c.mentions.ensures ∙ ap (λ (m : ℕ). mentions (named m) x) c.word.ensures in
    differs-unnamed _ _ (omega (arith, c.if-x-eq0.false)) (omega (arith, c.dim-top.ensures, c.if-x-top.false)) _ e (ap not c.if-not-mentions.true)

pub source_of-requires : goal.source_of-requires
source_of-requires c = (omega (arith, (framed _ c.requires.frame).high, c.dim-top.ensures), omega arith)

pub found-requires-clause-ready : goal.found-requires-clause-ready
found-requires-clause-ready c = (findable _ _ c.requires (omega (arith, c.if-x-eq0.false)) (omega (arith, c.dim-top.ensures, c.if-x-top.false)) _ c.dim-top.ensures _ c.source_of.ensures).0

pub returns : goal.returns
returns c =
    let x = c.args.x in
    let e = c.mentions.ensures ∙ ap (λ (m : ℕ). mentions (named m) x) c.word.ensures in
    differs-found _ _ (omega (arith, c.if-x-eq0.false)) (omega (arith, c.dim-top.ensures, c.if-x-top.false)) _ e (ap not c.if-not-mentions.false) _ _ c.found.ensures c.count.ensures
