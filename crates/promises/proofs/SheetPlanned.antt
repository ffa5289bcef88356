-- The sheet profile's answer on a book as in demand 3, planned.
use mathlib.Core.Path.{◌≡◌, refl, ◌∙◌}
use mathlib.Core.Bool.{Bool, true, false, cond, not, ◌&&◌, ◌||◌}
use mathlib.Core.List.{List, [], ◌∷◌}
use Prim.Native.Nat.{ℕ, ◌*◌}
use lib.ListN.{length}
use lib.Dec.{eqb, ltb}
use borrow.Author.Tests.{eqb-true}
use Rattle.rules.specs.Lists.{up_to, any_of, first_at, has}
use Rattle.rules.specs.File.{length_of}
use Rattle.rules.specs.Book.{count, key, held, Right}
use Rattle.rules.specs.Calls.{first_broken}
use Rattle.rules.specs.Truth.{Mesh, number, true_row, used_in}
use Rattle.rules.specs.Sequence.{Reached}
use Rattle.rules.specs.Sheet.{Flat, unused, branched, unmatched, rim_edges_of, rim_vertices_of, rim_length_of, sheet_rules, sheet_answer}
use Rattle.promises.specs.SheetPlan.{rim_of, rim_points, sheet_plan}
use Rattle.rules.proofs.Tests.{both}
use Rattle.rules.proofs.Keep.{up_to-is}
use Rattle.rules.proofs.Numbered.{any-agree}
use Rattle.rules.proofs.Searched.{least-agree}
use Rattle.rules.proofs.Rim.{rim-length}
use Rattle.promises.proofs.Kept.{Kept, kept-held, kept-dim, kept-right, reached-kept}
use Rattle.promises.proofs.Euler.{vertices-true}
use Rattle.promises.proofs.SheetTrue.{edge_count, cells-length, is-unused, is-branched, all-matched, rim-is, points-are}

-- ---- the refusals after 15, by the book and by the mesh
module _ (m : Mesh) (ws : List ℕ) (acrosses bytes vertices edges : ℕ) where
  byBook : List ℕ
  byBook =
      cond (any_of (unused ws) (up_to (count ws 0))) (28 ∷ 2 ∷ first_at (unused ws) (up_to (count ws 0)) ∷ [])
      (cond (any_of (branched ws) (up_to (count ws 1))) (28 ∷ 3 ∷ first_at (branched ws) (up_to (count ws 1)) ∷ [])
      (cond (any_of (unmatched ws) (up_to (count ws 2))) (28 ∷ 4 ∷ first_at (unmatched ws) (up_to (count ws 2)) ∷ [])
      (cond (ltb 4096 (length (rim_edges_of ws))) (29 ∷ [])
      (cond (ltb bytes (rim_length_of ws)) (18 ∷ [])
      (cond (not (eqb acrosses (3 * count ws 2)) || ltb vertices (length (rim_vertices_of ws)) || ltb edges (length (rim_edges_of ws))) (21 ∷ []) (0 ∷ []))))))

  none : ℕ → Bool
  none v = not (has v (used_in m))

  off : ℕ → Bool
  off k = not (eqb (length (true_row m 1 2 k)) 1 || eqb (length (true_row m 1 2 k)) 2)

  byMesh : List ℕ
  byMesh =
      cond (any_of none (up_to m.vertices)) (28 ∷ 2 ∷ first_at none (up_to m.vertices) ∷ [])
      (cond (any_of off (up_to (number m 1))) (28 ∷ 3 ∷ first_at off (up_to (number m 1)) ∷ [])
      (cond (ltb 4096 (length (rim_of m))) (29 ∷ [])
      (cond (ltb bytes (length_of 1 (length (rim_of m)))) (18 ∷ [])
      (cond (not (eqb acrosses (3 * length m.cells)) || ltb vertices (length (rim_points m)) || ltb edges (length (rim_of m))) (21 ∷ []) (0 ∷ [])))))

  book-mesh : Reached m ws → Flat ws → byBook ≡ byMesh
  unfolding byBook byMesh none off
  book-mesh r a =
      let n = vertices-true m ws (reached-kept m ws r) in
      let e = edge_count m ws r a in
      rw (
        n,
        e,
        all-matched m ws r a,
        rim-length ws,
        rim-is m ws r a,
        points-are m ws r a,
        cells-length m ws r a,
        any-agree (unused ws) none (up_to m.vertices) (λ v i. is-unused m ws r a v),
        least-agree (unused ws) none m.vertices (λ v l. is-unused m ws r a v),
        any-agree (branched ws) off (up_to (number m 1)) (λ k i. is-branched m ws r a k (up_to-is k (number m 1) i)),
        least-agree (branched ws) off (number m 1) (λ k l. is-branched m ws r a k l),
      )

-- ---- the answer
pub sheet-planned : (m : Mesh) (ws : List ℕ) (r : Reached m ws) (acrosses bytes vertices edges : ℕ)
    → sheet_answer ws acrosses bytes vertices edges ≡ sheet_plan m (reached-kept m ws r).mask acrosses bytes vertices edges
unfolding sheet_answer sheet_rules first_broken sheet_plan byBook byMesh none off
sheet-planned m ws r acrosses bytes vertices edges =
    rw (right.frame, right.rows, kept-dim m ws k, ← kept-held m ws k (key 1 0), ← kept-held m ws k (key 2 1), ← kept-held m ws k (key 1 2))
    (go (eqb m.dims 2) refl (held ws (key 1 0) && held ws (key 2 1) && held ws (key 1 2)) refl)
  where
    k : Kept m ws
    k = reached-kept m ws r

    right : Right ws
    right = kept-right m ws k

    go : (d : Bool) → eqb m.dims 2 ≡ d → (b : Bool) → (held ws (key 1 0) && held ws (key 2 1) && held ws (key 1 2)) ≡ b
        → cond (not d) (28 ∷ 1 ∷ []) (cond (not b) (15 ∷ []) (byBook m ws acrosses bytes vertices edges)) ≡ cond (not d) (28 ∷ 1 ∷ []) (cond (not b) (15 ∷ []) (byMesh m ws acrosses bytes vertices edges))
    go false p b q = refl
    go true p false q = refl
    go true p true q =
        let (x, z) = both (held ws (key 1 0) && held ws (key 2 1)) (held ws (key 1 2)) q in
        let (w, y) = both (held ws (key 1 0)) (held ws (key 2 1)) x in
        book-mesh m ws acrosses bytes vertices edges r (record { frame = right.frame; rows = right.rows; two = kept-dim m ws k ∙ eqb-true m.dims 2 p; ends = w; edges = y; cells = z })
