-- Entities found, and what two of them say.
use mathlib.Core.Path.{◌≡◌, refl, sym, ap, ◌∙◌}
use mathlib.Core.Bool.{false, ◌&&◌}
use mathlib.Core.List.{List, [], ◌∷◌}
use Prim.Native.Nat.{ℕ, ◌+◌, ◌≤◌, ◌<◌}
use lib.ListN.{length, take}
use lib.Dec.{eqb, leb}
use borrow.Author.Tests.{eq-eqb, ne_eqb, le-leb, lt-leb}
use Rattle.rules.specs.Lists.{any_of, has, meets}
use Rattle.rules.specs.Made.{built}
use Rattle.rules.specs.Calls.{first_broken}
use Rattle.rules.specs.Truth.{Mesh, entities, number, entity, incident}
use Rattle.rules.proofs.Numbered.{length-rows, get_d_rows}
use Rattle.rules.proofs.Incidence.{incident-level}
use Rattle.rules.proofs.TrueRows.{entities-mid, entities-top, number-low, low-entity}
use Rattle.plain.specs.declared.stored.Sizes.{Sizes}
use Rattle.plain.specs.Cells.{cell_at, cells_before, mesh_from}
use Rattle.plain.specs.Sought.{There}
use Rattle.plain.specs.Answers.{by_counts, said_of}

module _ (s : Sizes) (ws : List ℕ) where
  mesh-dims : (mesh_from s ws).dims ≡ s.dim
  unfolding mesh_from
  mesh-dims = refl

  mesh-vertices : (mesh_from s ws).vertices ≡ s.vertices
  unfolding mesh_from
  mesh-vertices = refl

  pub mesh-cells : (mesh_from s ws).cells ≡ cells_before (s.dim + 1) ws s.cells
  unfolding mesh_from
  mesh-cells = refl

  vertices-length : (d : ℕ) → d ≡ 0 → length (entities (mesh_from s ws) d) ≡ s.vertices
  unfolding number
  vertices-length d e = rw e (number-low (mesh_from s ws) ∙ mesh-vertices)

  pub found-vertex : (d i : ℕ) → d ≡ 0 → i < s.vertices → There (entities (mesh_from s ws) d) d i (i ∷ 0 ∷ 0 ∷ 0 ∷ [])
  unfolding entity
  found-vertex d i e l = record {
    below = rw (vertices-length d e) l;
    set = rw e (sym (low-entity (mesh_from s ws) i (rw mesh-vertices l)));
  }

  pub no-vertex : (d i : ℕ) → d ≡ 0 → s.vertices ≤ i → length (entities (mesh_from s ws) d) ≤ i
  no-vertex d i e l = rw (vertices-length d e) l

  pub mid-entities : (d : ℕ) → 0 < d → d < s.dim → entities (mesh_from s ws) d ≡ built d [] (cells_before (s.dim + 1) ws s.cells)
  mid-entities d p q = entities-mid (mesh_from s ws) d p (rw mesh-dims q) ∙ ap (built d []) mesh-cells

  top-entities : (d : ℕ) → 0 < s.dim → d ≡ s.dim → entities (mesh_from s ws) d ≡ cells_before (s.dim + 1) ws s.cells
  top-entities d p e =
      ap (entities (mesh_from s ws)) (e ∙ sym mesh-dims) ∙ entities-top (mesh_from s ws) (rw mesh-dims p) ∙ mesh-cells

  cells-length : length (cells_before (s.dim + 1) ws s.cells) ≡ s.cells
  unfolding cells_before
  cells-length = length-rows (cell_at (s.dim + 1) ws) s.cells

  pub found-cell : (d i : ℕ) → 0 < s.dim → d ≡ s.dim → i < s.cells → (r : List ℕ) → take (s.dim + 1) r ≡ cell_at (s.dim + 1) ws i
      → There (entities (mesh_from s ws) d) d i r
  unfolding cells_before
  found-cell d i p e l r k = rw (top-entities d p e) (record {
    below = rw cells-length l;
    set = rw e (k ∙ sym (get_d_rows (cell_at (s.dim + 1) ws) s.cells i [] l));
  })

  pub no_cell : (d i : ℕ) → 0 < s.dim → d ≡ s.dim → s.cells ≤ i → length (entities (mesh_from s ws) d) ≤ i
  no_cell d i p e l = rw (top-entities d p e, cells-length) l

-- ---- what two entities of one dimension say
module _ (m : Mesh) (d e i j : ℕ) (s : d ≡ e) where
  pub level-same : j ≡ i → incident m d e i j ≡ false
  level-same q = rw (← s) (rw (incident-level m d i j, eq-eqb j i q))

  pub level-points : (j ≡ i → ⊥) → d ≡ 0 → incident m d e i j ≡ any_of (λ c. has i c && has j c) m.cells
  level-points n z = rw (← s) (rw (incident-level m d i j, ne_eqb j i n, eq-eqb d 0 z))

  pub level-meets : (j ≡ i → ⊥) → (d ≡ 0 → ⊥) → incident m d e i j ≡ meets (entity m d i) (entity m e j)
  level-meets n z = rw (← s) (rw (incident-level m d i j, ne_eqb j i n, ne_eqb d 0 z))

-- ---- the number and the answer, from what was found
module _ (m : Mesh) (d e i j : ℕ) where
  pub none_first : length (entities m d) ≤ i → by_counts m d e i j ≡ 17
  unfolding by_counts first_broken number
  none_first l = rw (le-leb (length (entities m d)) i l)

  module _ (t : i < length (entities m d)) where
    there-first : leb (number m d) i ≡ false
    unfolding number
    there-first = lt-leb (length (entities m d)) i t

    pub none-second : length (entities m e) ≤ j → by_counts m d e i j ≡ 19
    unfolding by_counts first_broken number
    none-second l = rw (there-first, le-leb (length (entities m e)) j l)

    pub both-there : j < length (entities m e) → by_counts m d e i j ≡ 0
    unfolding by_counts first_broken number
    both-there u = rw (there-first, lt-leb (length (entities m e)) j u)

  pub said-none : (n : ℕ) → eqb n 0 ≡ false → by_counts m d e i j ≡ n → said_of m d e i j ≡ false
  unfolding said_of
  said-none n z e = rw (e, z)

  pub said-is : by_counts m d e i j ≡ 0 → said_of m d e i j ≡ incident m d e i j
  unfolding said_of
  said-is e = rw e
