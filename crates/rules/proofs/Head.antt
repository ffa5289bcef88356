-- The first 32 bits of a file as a number: its parts are the file's own fields.
use mathlib.Core.Path.{◌≡◌}
use mathlib.Core.List.{List}
use Prim.Native.Nat.{ℕ, ◌+◌, ◌*◌, ◌<◌}
use native.Mathlib.Nat.{mul-le-mul}
use native.Mathlib.Omega.{arith}
use Rattle.rules.specs.File.{field, file_dim, file_vertices, file_cells, file_spare, bits_of, length_of, head_dim, head_vertices, head_cells, head_spare, head_length}
use Rattle.rules.proofs.Fields.{field_below, first-word}

module _ (f : List ℕ) where
  vertices-below : file_vertices f < 16384
  unfolding file_vertices
  vertices-below = field_below f 2 14

  cells-below : file_cells f < 8192
  unfolding file_cells
  cells-below = field_below f 16 13

  spare-below : file_spare f < 8
  unfolding file_spare
  spare-below = field_below f 29 3

  pub head-dim : head_dim (field f 0 32) ≡ file_dim f
  unfolding head_dim
  head-dim = omega (arith, first-word f, vertices-below, cells-below, spare-below)

  pub head-vertices : head_vertices (field f 0 32) ≡ file_vertices f
  unfolding head_vertices
  head-vertices = omega (arith, first-word f, vertices-below, cells-below, spare-below)

  pub head-cells : head_cells (field f 0 32) ≡ file_cells f
  unfolding head_cells
  head-cells = omega (arith, first-word f, vertices-below, cells-below, spare-below)

  pub head-spare : head_spare (field f 0 32) ≡ file_spare f
  unfolding head_spare
  head-spare = omega (arith, first-word f, vertices-below, cells-below, spare-below)

  pub head-length : head_length (field f 0 32) ≡ length_of (file_dim f) (file_cells f)
  unfolding head_length
  head-length = rw (head-dim, head-cells)

-- the bounds of its parts
pub head-dim-below : (h : ℕ) → h < 4294967296 → head_dim h < 4
unfolding head_dim
head-dim-below h l = omega arith

pub head-vertices-below : (h : ℕ) → head_vertices h < 16384
unfolding head_vertices
head-vertices-below h = omega arith

pub head-cells-below : (h : ℕ) → head_cells h < 8192
unfolding head_cells
head-cells-below h = omega arith

pub head-length-below : (h : ℕ) → h < 4294967296 → head_length h < 65536
unfolding head_length length_of
head-length-below h l =
    omega (arith, mul-le-mul {n₁ = 13 * (head_dim h + 1)} {m₁ = head_cells h} {n₂ = 52} {m₂ = 8192} (omega (arith, head-dim-below h l)) (omega (arith, head-cells-below h)))

pub head-bits-below : (h : ℕ) → h < 4294967296 → bits_of (head_dim h) (head_cells h) < 524288
unfolding bits_of
head-bits-below h l =
    omega (arith, mul-le-mul {n₁ = 13 * (head_dim h + 1)} {m₁ = head_cells h} {n₂ = 52} {m₂ = 8192} (omega (arith, head-dim-below h l)) (omega (arith, head-cells-below h)))
