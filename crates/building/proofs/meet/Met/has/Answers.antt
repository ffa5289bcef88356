-- The candidate is among the entities before the walk's place exactly where it is among all.
use Rattle.std.proofs.Common.{◌≡◌, ◌-◌, ◌<◌, sym, ap, ◌∙◌, arith, true, false}
use Rattle.rules.specs.Lists.{any_of, same}
use Rattle.repeats.proofs.Walked.{walk_end, walk-found, walk-on}
use Rattle.rules.proofs.Chained.{chain-links}
use Rattle.building.specs.Sets.{entity, entities}
use Rattle.building.proofs.Chained.{chain-any}
use Rattle.building.proofs.Entities.{entity-only, held-length, held-at}
use Rattle.building.proofs.meet.Met.has.Goals as goal

pub is_entity-requires : goal.is_entity-requires
is_entity-requires c = omega (arith, held-length _ _ _ c.self.view_is, (c.self.invariant.chains.newest _ c.requires).within, c.loop-p.invariant.high)

pub returns-then-is_entity : goal.returns-then-is_entity
unfolding entities
returns-then-is_entity c =
    let k = c.self.invariant in
    let p = c.loop-p.p in
    let low : p - 1 < c.self.inside.count = omega (arith, (k.chains.newest _ c.requires).within, c.loop-p.invariant.high, c.loop-p-test.true) in
    let here : same c.args.candidate (entity c.self.inside.sets (p - 1)) ≡ true = rw (held-at _ _ _ c.self.view_is (p - 1) low) at (sym c.is_entity.ensures ∙ c.if-is_entity.true) in
    walk-found c.loop-p.invariant (omega (arith, c.loop-p-test.true)) here ∙ sym (chain-any k c.args.candidate c.requires) ∙ ap (any_of (same c.args.candidate)) c.self.view_is

pub loop-p-preserved : goal.loop-p-preserved
loop-p-preserved c =
    let k = c.self.invariant in
    let p = c.loop-p.p in
    let low : p - 1 < c.self.inside.count = omega (arith, (k.chains.newest _ c.requires).within, c.loop-p.invariant.high, c.loop-p-test.true) in
    let other : same c.args.candidate (entity c.self.inside.sets (p - 1)) ≡ false = rw (held-at _ _ _ c.self.view_is (p - 1) low) at (sym c.is_entity.ensures ∙ c.if-is_entity.false) in
    walk-on c.loop-p.invariant (omega (arith, c.loop-p-test.true)) (chain-links k.chains _ c.requires) (entity-only _ _) other

pub returns : goal.returns
unfolding entities
returns c =
    walk_end c.loop-p.invariant c.loop-p-test.false ∙ sym (chain-any c.self.invariant c.args.candidate c.requires) ∙ ap (any_of (same c.args.candidate)) c.self.view_is
