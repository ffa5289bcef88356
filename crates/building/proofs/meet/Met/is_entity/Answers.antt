-- The entity's words stand at 3 i and behind it; two sets that differ at a place are different, and of three places the last decides.
use Rattle.std.proofs.Common.{sym, ◌∙◌, arith, rules}
use borrow.Author.Tests.{eqb-true, eqb-false}
use Rattle.building.specs.Sets.{entity}
use Rattle.building.proofs.Entities.{held-length, held-at, same-other, same-third}
use Rattle.building.proofs.meet.Met.is_entity.Goals as goal
use Rattle.building.proofs.meet.Met.is_entity.Goals.{then-candidate-sets, else-candidate-sets}

pub overflow_mul-at : goal.overflow_mul-at
overflow_mul-at c = omega (arith, held-length _ _ _ c.self.view_is)

pub overflow_add-result : goal.overflow_add-result
overflow_add-result c = omega (arith, held-length _ _ _ c.self.view_is)

pub offset_bounds-sets-at : goal.offset_bounds-sets-at
offset_bounds-sets-at c = omega (arith, held-length _ _ _ c.self.view_is)

pub bounds-sets-at : goal.bounds-sets-at
bounds-sets-at c = omega (arith, held-length _ _ _ c.self.view_is)

pub overflow_add-at : goal.overflow_add-at
overflow_add-at c = omega (arith, held-length _ _ _ c.self.view_is)

pub offset_bounds-sets-at-then-candidate-sets : goal.offset_bounds-sets-at-then-candidate-sets
offset_bounds-sets-at-then-candidate-sets c = omega (arith, held-length _ _ _ c.self.view_is)

pub bounds-sets-at-then-candidate-sets : goal.bounds-sets-at-then-candidate-sets
bounds-sets-at-then-candidate-sets c = omega (arith, held-length _ _ _ c.self.view_is)

pub offset_bounds-sets-at-then-candidate-sets-2 : goal.offset_bounds-sets-at-then-candidate-sets-2
offset_bounds-sets-at-then-candidate-sets-2 c = omega (arith, held-length _ _ _ c.self.view_is)

pub bounds-sets-at-then-candidate-sets-2 : goal.bounds-sets-at-then-candidate-sets-2
bounds-sets-at-then-candidate-sets-2 c = omega (arith, held-length _ _ _ c.self.view_is)

pub returns-then-candidate-sets-2 : goal.returns-then-candidate-sets-2
unfolding entity
returns-then-candidate-sets-2 c =
    rw (held-at _ _ _ c.self.view_is c.args.i (omega (arith, held-length _ _ _ c.self.view_is)))
    (elim c.if-candidate-sets.branch [
      | then-candidate-sets w ↦ same-third c.args.candidate (search rules) _ _ _ w.if-candidate-sets.true (eqb-true _ _ (sym w.value-is ∙ c.if-candidate-sets-2.true))
      | else-candidate-sets w ↦ absurd (w.if-candidate-sets.false (eqb-true _ _ (sym w.value-is ∙ c.if-candidate-sets-2.true)))
    ])

pub returns-else-candidate-sets-2 : goal.returns-else-candidate-sets-2
unfolding entity
returns-else-candidate-sets-2 c =
    rw (held-at _ _ _ c.self.view_is c.args.i (omega (arith, held-length _ _ _ c.self.view_is)))
    (elim c.if-candidate-sets.branch [
      | then-candidate-sets w ↦ c.if-candidate-sets-2.false ∙ sym (same-other _ _ 1 (eqb-false _ _ (sym w.value-is ∙ c.if-candidate-sets-2.false)))
      | else-candidate-sets w ↦ c.if-candidate-sets-2.false ∙ sym (same-other _ _ 0 w.if-candidate-sets.false)
    ])
