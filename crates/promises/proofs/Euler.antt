-- The Euler number after any sequence of calls: it is the mesh's, and points nobody uses do not count in it.
use mathlib.Core.Path.{◌≡◌, sym, ap, ◌∙◌}
use mathlib.Core.Bool.{true, cond}
use mathlib.Core.Logic.{inl, inr}
use mathlib.Core.List.{List}
use Prim.Native.Nat.{ℕ, ◌≤◌, ◌<◌}
use native.Mathlib.Nat.{le_refl}
use native.Mathlib.Omega.{arith}
use lib.Dec.{leb}
use borrow.Author.Tests.{lt-leb}
use Rattle.rules.specs.Lists.{members_below}
use Rattle.rules.specs.Book.{count, key, held, rows_of}
use Rattle.rules.specs.Calls.{euler_number, alternating, used_vertices, euler_of}
use Rattle.rules.specs.Truth.{Mesh, entities, number, used_in, true_euler}
use Rattle.rules.specs.Plain.{mesh_in}
use Rattle.rules.proofs.Compared.{lt-or-le}
use Rattle.rules.proofs.Members.{members-same, members-all}
use Rattle.rules.proofs.Accepted.{eulers}
use Rattle.rules.proofs.TrueRows.{Formed, number-low, entities-top, vertex-rows}
use Rattle.promises.specs.Demand.{EulerTrue, UnusedPoints, AllUsed}
use Rattle.promises.proofs.Kept.{Kept, kept-held, kept-dim, reached-kept}
use Rattle.promises.proofs.DemandThree.{first_count, second-count, rows_true}

-- ---- D→0 is held: its rows are the cells, and N_0 and the vertices used are the mesh's
module _ (m : Mesh) (ws : List ℕ) (k : Kept m ws) where
  pub top-held : held ws (key m.dims 0) ≡ true
  top-held = kept-held m ws k (key m.dims 0) ∙ k.proper.top

  pub cells-true : rows_of ws (key m.dims 0) ≡ m.cells
  cells-true =
      rows_true m ws k m.dims 0 (omega arith) top-held ∙ vertex-rows m k.formed m.dims k.formed.low (le_refl _) ∙ entities-top m k.formed.low

  pub vertices-true : count ws 0 ≡ m.vertices
  vertices-true = second-count m ws k m.dims 0 (omega arith) top-held ∙ number-low m

  pub used-true : used_vertices ws ≡ used_in m
  unfolding used_vertices used_in
  used-true = rw (kept-dim m ws k, cells-true, vertices-true)

  -- so the mesh of the book's cells is the mesh
  pub mesh-true : mesh_in ws ≡ m
  unfolding mesh_in
  mesh-true = rw (kept-dim m ws k, cells-true, vertices-true)

-- ---- the counts that the Euler number is made from
module _ (m : Mesh) (ws : List ℕ) (k : Kept m ws) (z : euler_number ws ≡ 0) where
  counted : (d : ℕ) → 0 < d → d ≤ m.dims → count ws d ≡ number m d
  counted d p l = elim (lt-or-le d m.dims) [
    | inl x ↦ first_count m ws k d 0 (omega arith) (eulers ws z d p (rw (kept-dim m ws k) x) (omega (arith, k.formed.high)))
    | inr y ↦ let q : d ≡ m.dims = omega arith in rw q (first_count m ws k m.dims 0 (omega arith) (top-held m ws k))
  ]

  -- a count that stands only where D is high enough
  counted-from : (d : ℕ) → 0 < d → cond (leb d m.dims) (count ws d) 0 ≡ cond (leb d m.dims) (number m d) 0
  counted-from d p = elim (lt-or-le m.dims d) [ inl x ↦ rw (lt-leb d m.dims x) | inr y ↦ rw (counted d p y) ]

pub euler-true : EulerTrue
unfolding euler_of true_euler alternating
euler-true m ws r z =
    let k = reached-kept m ws r in
    rw (used-true m ws k, kept-dim m ws k, counted m ws k z 1 (omega arith) k.formed.low, counted-from m ws k z 2 (omega arith), counted-from m ws k z 3 (omega arith))

-- ---- meshes with the same D and the same cells, whatever their N_0
module _ (m n : Mesh) (f : Formed m) (g : Formed n) (d : m.dims ≡ n.dims) (c : m.cells ≡ n.cells) where
  used-same : used_in m ≡ used_in n
  unfolding used_in
  used-same = members-same m.cells m.vertices n.vertices f.below (rw c g.below) ∙ ap (members_below n.vertices) c

  pub euler-same : true_euler m ≡ true_euler n
  unfolding true_euler number entities alternating
  euler-same = rw (used-same, d, c)

pub unused-points : UnusedPoints
unused-points m n ws vs r s d c y z =
    euler-true m ws r y ∙ euler-same m n (reached-kept m ws r).formed (reached-kept n vs s).formed d c ∙ sym (euler-true n vs s z)

pub all-used : AllUsed
unfolding euler_of used_vertices
all-used m ws r h =
    let k = reached-kept m ws r in
    rw (kept-dim m ws k, cells-true m ws k, vertices-true m ws k, members-all m.cells m.vertices h)
