-- The plain engine on a book as in demand 3: the mesh of the book's cells is the last accepted one, so its counts and its answers are those of the relations held. On any right book it goes by the cells alone.
use mathlib.Core.Path.{◌≡◌, refl, sym, ap, ◌∙◌}
use mathlib.Core.Bool.{Bool, true, false, cond, ◌||◌}
use Prim.Native.Nat.{ℕ, ◌≤◌, ◌<◌}
use lib.Dec.{eqb, ltb, leb}
use Rattle.rules.specs.Lists.{has}
use Rattle.rules.specs.Book.{dim, key, named, held}
use Rattle.rules.specs.Calls.{first_broken, find_number}
use Rattle.rules.specs.Truth.{Mesh, number}
use Rattle.rules.specs.Plain.{mesh_in, plain_rules, plain_number, plain_yes}
use Rattle.promises.specs.Plan.{row_plan, find_plan, plain_plan}
use Rattle.promises.specs.Plain.{SameMesh, PlainCounts, BookCounts, PlainAgrees, PlainTrue, PlainFinds, CellsAlone}
use Rattle.rules.proofs.Accepted.{plains, plain-accepted, rowed, finds}
use Rattle.rules.proofs.TrueRows.{has-incident}
use Rattle.promises.proofs.Kept.{kept-held, kept-dim, reached-kept}
use Rattle.promises.proofs.DemandThree.{first_count, second-count, row-true, found-true}
use Rattle.promises.proofs.Euler.{mesh-true}
use Rattle.promises.proofs.Planned.{find-planned, plain-planned}

pub same-mesh : SameMesh
same-mesh m ws r = mesh-true m ws (reached-kept m ws r)

pub plain-counts : PlainCounts
plain-counts m ws r d = rw (same-mesh m ws r)

pub book-counts : BookCounts
book-counts m ws r d e l h =
    let k = reached-kept m ws r in
    (plain-counts m ws r d ∙ sym (first_count m ws k d e l h), plain-counts m ws r e ∙ sym (second-count m ws k d e l h))

pub plain-true : PlainTrue
plain-true m ws r d e i j z = plain-accepted ws d e i j z ∙ rw (same-mesh m ws r)

pub plain-agrees : PlainAgrees
plain-agrees m ws r d e i j h z =
    let k = reached-kept m ws r in
    let a = plains ws d e i j z in
    let l : e ≤ m.dims = rw (kept-dim m ws k) at a.second in
    let x : i < number m d = rw (plain-counts m ws r d) at a.below in
    let y : j < number m e = rw (plain-counts m ws r e) at a.other in
    plain-true m ws r d e i j z ∙ sym (ap (has j) (row-true m ws k d e l h i x) ∙ has-incident m d e i j y)

-- the two plans, where the mask names d→e
plans-alike : (m : Mesh) (mask d e i j : ℕ) → named mask (key d e) ≡ true → plain_plan m d e i j ≡ find_plan m mask d e i j
unfolding plain_plan find_plan row_plan first_broken
plans-alike m mask d e i j h = rw h (go (ltb m.dims d || ltb m.dims e) (leb (number m d) i))
  where
    go : (x y : Bool)
        → ◌≡◌ {A = ℕ} (cond x 12 (cond y 17 (cond (leb (number m e) j) 19 0)))
        (cond (eqb (cond x 12 (cond y 17 0)) 0) (cond (leb (number m e) j) 19 0) (cond x 12 (cond y 17 0)))
    go true y = refl
    go false true = refl
    go false false = refl

pub plain-finds : PlainFinds
plain-finds m ws r d e i j =
    (alike, λ z. let h = (rowed ws d e i (finds ws d e i j z).0).there in plain-true m ws r d e i j (alike h ∙ z) ∙ sym (found-true m ws r d e i j z))
  where
    alike : held ws (key d e) ≡ true → plain_number ws d e i j ≡ find_number ws d e i j
    alike h =
        let k = reached-kept m ws r in
        plain-planned m ws k d e i j ∙ plans-alike m k.mask d e i j (sym (kept-held m ws k (key d e)) ∙ h) ∙ sym (find-planned m ws k d e i j)

pub cells-alone : CellsAlone
unfolding plain_number plain_rules plain_yes first_broken
cells-alone ws vs f g q d e i j =
    let n : dim ws ≡ dim vs = unfold mesh_in in ap (λ (m : Mesh). m.dims) q in
    rw (f.frame, f.rows, g.frame, g.rows, q, n) (refl, refl)
