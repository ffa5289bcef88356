-- Vertices and cells by their numbers.
use Rattle.std.specs.Prelude.{List, map, ℕ}
use Rattle.kinds.specs.declared.Cell.{Cell}
use Rattle.kinds.specs.declared.Vertex.{Vertex}

-- the numbers of the vertices, in their order
unfoldable pub numbers : List Vertex → List ℕ
numbers vs = map (λ v. v.0) vs

-- the cell with that number
abbrev pub cell_numbered : ℕ → Cell
cell_numbered c = record { 0 = c }
