-- The three cases of how many candidates a cell has.
use Rattle.building.proofs.Lexicographic.{most-triangle, most-edges, most-faces}
use Rattle.building.proofs.candidates.choices.Goals as goal

pub returns-then-top-eq2 : goal.returns-then-top-eq2
returns-then-top-eq2 c = most-triangle _ _ c.if-top-eq2.true

pub returns-then-d-eq1 : goal.returns-then-d-eq1
returns-then-d-eq1 c = most-edges _ _ c.if-top-eq2.false c.if-d-eq1.true

pub returns-else-d-eq1 : goal.returns-else-d-eq1
returns-else-d-eq1 c = most-faces _ _ c.if-top-eq2.false c.if-d-eq1.false
