-- The vertices of an entity, as a kept book tells them, are the mesh's; so is the count of its dimension.
use mathlib.Core.Path.{◌≡◌, sym, ◌∙◌}
use mathlib.Core.List.{List}
use Prim.Native.Nat.{ℕ, zero, suc, ◌≤◌, ◌<◌}
use native.Mathlib.Omega.{arith}
use Rattle.rules.specs.Book.{count, key}
use Rattle.rules.specs.Boxes.{vertices_of}
use Rattle.rules.specs.Truth.{Mesh, number, entity}
use Rattle.rules.proofs.Proper.{first_below}
use Rattle.rules.proofs.TrueRows.{number-low, low-entity, vertex-row}
use Rattle.promises.specs.AnotherOrder.{Tells}
use Rattle.promises.proofs.Kept.{Kept, kept-held}
use Rattle.promises.proofs.DemandThree.{first_count, row-true}
use Rattle.promises.proofs.Euler.{vertices-true}
use Rattle.promises.proofs.Boxes.{vertices-row}

module _ (m : Mesh) (ws : List ℕ) (k : Kept m ws) where
  -- a dimension whose vertices the book tells is one of the mesh's
  pub tells-below : (d : ℕ) → Tells ws d → d ≤ m.dims
  tells-below zero t = omega arith
  tells-below (suc d) t = first_below m.dims k.mask k.formed.high k.proper (suc d) 0 (omega arith) (sym (kept-held m ws k (key (suc d) 0)) ∙ t (omega arith))

  pub entity-count : (d : ℕ) → Tells ws d → count ws d ≡ number m d
  entity-count zero t = vertices-true m ws k ∙ sym (number-low m)
  entity-count (suc d) t = first_count m ws k (suc d) 0 (omega arith) (t (omega arith))

  pub entity-vertices : (d i : ℕ) → Tells ws d → i < count ws d → vertices_of ws d i ≡ entity m d i
  unfolding vertices_of
  entity-vertices zero i t l = sym (low-entity m i (rw (vertices-true m ws k) at l))
  entity-vertices (suc d) i t l =
      let x : i < number m (suc d) = rw (entity-count (suc d) t) at l in
      vertices-row ws (suc d) i (omega arith) ∙ row-true m ws k (suc d) 0 (omega arith) (t (omega arith)) i x ∙ vertex-row m k.formed (suc d) i (omega arith) (tells-below (suc d) t) x
