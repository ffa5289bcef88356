-- The invariant: the first j vertices stand behind those of k cells.
use mathlib.Core.Path.{◌≡◌}
use lib.Seq.{paste}
use Rattle.dayfile.specs.Numbers.{numbers}
use Rattle.salvaging.proofs.cells.put_kept.Given as goal

abbrev pub invariant-loop-j : goal.invariant-loop-j
invariant-loop-j l = l.vertices ≡ paste l.initial.vertices l.at (numbers l.v) l.j
