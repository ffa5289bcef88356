-- The invariant: the vertices listed before the loop's place are marked, and no others are touched.
use mathlib.Core.Path.{◌≡◌}
use lib.ListN.{take}
use Rattle.rules.specs.Stamps.{stamped}
use Rattle.cells.proofs.mark.Given as goal

abbrev pub invariant-loop-v : goal.invariant-loop-v
invariant-loop-v l = l.marks ≡ stamped l.initial.marks 1 (take l.v-index l.vertices)
