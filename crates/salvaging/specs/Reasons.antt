-- Why a cell is dropped, and the number that says so in the list of the cells dropped.
use Rattle.std.specs.Prelude.{ℕ, if◌then◌else◌, ◌==◌, Option, Some, None}
use Rattle.salvaging.specs.declared.reasons.Reason.{Reason}
use Rattle.salvaging.specs.declared.reasons.Reason.TheVariants.{CutOff, VertexOut, VertexTwice, CellTwice}

-- its number
abbrev pub reason_number : Reason → ℕ
reason_number CutOff = 6
reason_number VertexOut = 7
reason_number VertexTwice = 8
reason_number CellTwice = 23

-- the reason that a number says
abbrev pub reason_of : ℕ → Reason
reason_of n = if n == 6 then CutOff else (if n == 7 then VertexOut else (if n == 8 then VertexTwice else CellTwice))

-- the number, and 0 for a cell that is kept
abbrev pub why_number : Option Reason → ℕ
why_number None = 0
why_number (Some r) = reason_number r
