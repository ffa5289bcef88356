-- What out references hold after a refusal: what it tells, or what was there.
use Rattle.std.specs.Prelude.{ℕ}
use Rattle.std.proofs.Math.Option.{Option, none, some}
use Rattle.kinds.specs.declared.refusals.Refusal.{Refusal}
use Rattle.kinds.specs.declared.refusals.Refusal.TheVariants.{VertexOut, VertexTwice, CellTwice}

-- the key of a place that is told
abbrev pub key_or : Option (ℕ × ℕ) → ℕ → ℕ
key_or none old = old
key_or (some p) old = p.0

-- its position
abbrev pub position_or : Option (ℕ × ℕ) → ℕ → ℕ
position_or none old = old
position_or (some p) old = p.1

-- the cell that a refusal tells
abbrev pub cell_or : Refusal → ℕ → ℕ
cell_or (VertexOut c) old = c.0
cell_or (VertexTwice c) old = c.0
cell_or (CellTwice c) old = c.0
cell_or r old = old
