-- What the file's first 32 bits say of the file.
use mathlib.Core.Path.{◌≡◌, ap, ◌∙◌}
use mathlib.Core.List.{List}
use Prim.Native.Nat.{ℕ}
use Rattle.rules.specs.File.{field, file_dim, file_vertices, file_cells, file_spare, length_of, head_dim, head_vertices, head_cells, head_spare, head_length}
use Rattle.rules.proofs.Head.{head-dim, head-vertices, head-cells, head-spare, head-length}

pub record Says (f : List ℕ) (h : ℕ) : Type 0 where
  pub dim : head_dim h ≡ file_dim f
  pub vertices : head_vertices h ≡ file_vertices f
  pub cells : head_cells h ≡ file_cells f
  pub spare : head_spare h ≡ file_spare f
  pub length : head_length h ≡ length_of (file_dim f) (file_cells f)

pub says : (f : List ℕ) (h : ℕ) → h ≡ field f 0 32 → Says f h
says f h e = record {
  dim = ap head_dim e ∙ head-dim f;
  vertices = ap head_vertices e ∙ head-vertices f;
  cells = ap head_cells e ∙ head-cells f;
  spare = ap head_spare e ∙ head-spare f;
  length = ap head_length e ∙ head-length f;
}
