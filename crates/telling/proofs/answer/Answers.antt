-- Refused, or saved: what the call gives is handed on.
use mathlib.Core.Path.{◌≡◌, ap, ◌∙◌}
use mathlib.Core.List.{List}
use Prim.Native.Nat.{ℕ}
use native.Mathlib.Omega.{arith}
use Rattle.rules.specs.File.{field, file_cells, head_cells}
use Rattle.rules.proofs.Head.{head-cells}
use Rattle.telling.proofs.Answered.{refused-outcome, refused-text, count-few, count_low, length-few, accepted-outcome, accepted-text}
use Rattle.telling.proofs.answer.Goals as goal

-- the cells by the header
counted : (f : List ℕ) {h k : ℕ} → h ≡ field f 0 32 → k ≡ head_cells h → k ≡ file_cells f
counted f e a = a ∙ ap head_cells e ∙ head-cells f

pub overflow_cast-result : goal.overflow_cast-result
overflow_cast-result c = let w = c.in-Ok.ensures in omega (arith, length-few _ _ _ _ w.number w.given)

pub overflow_cast-gone : goal.overflow_cast-gone
overflow_cast-gone c = let w = c.in-Ok.ensures in omega (arith, count_low _ _ _ _ w.number w.given)

pub overflow_sub-result : goal.overflow_sub-result
overflow_sub-result c =
    let w = c.in-Ok.ensures in
    omega (arith, counted _ c.header.ensures c.cells-cells.ensures, count-few _ _ _ _ w.number w.given)

pub returns-in-Ok-clause-known : goal.returns-in-Ok-clause-known
returns-in-Ok-clause-known c =
    let w = c.in-Ok.ensures in
    accepted-outcome _ _ _ _ w.number w.given (counted _ c.header.ensures c.cells-cells.ensures)

pub returns-in-Ok-clause-text : goal.returns-in-Ok-clause-text
returns-in-Ok-clause-text c = let w = c.in-Ok.ensures in accepted-text _ _ _ _ w.number w.given w.bytes

pub returns-in-Err-clause-known : goal.returns-in-Err-clause-known
returns-in-Err-clause-known c =
    let length = rw c.number-number.ensures at c.refused.ensures.size in
    rw c.number-number.ensures (refused-outcome _ _ _ _ c.in-Err.ensures.number length (counted _ c.header.ensures c.cells-cells.ensures))

pub returns-in-Err-clause-text : goal.returns-in-Err-clause-text
returns-in-Err-clause-text c = let w = c.in-Err.ensures in refused-text _ _ _ _ w.number (rw (c.number-number.ensures, w.bytes) at c.refused.ensures)
