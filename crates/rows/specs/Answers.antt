-- What the row rule's answer means: nothing, or the key and the position.
use Rattle.std.specs.Prelude.{Option, Some, None, ℕ}
use Rattle.std.proofs.Math.Option as maybe
use Rattle.kinds.specs.declared.refusals.Broken.{Broken}
use Rattle.kinds.specs.Refusals.{placed}

-- where the rows are broken
abbrev pub rows_place : Option Broken → maybe.Option (ℕ × ℕ)
rows_place None = maybe.none
rows_place (Some b) = placed b
