-- On a book as in demand 3 with D = 2 that holds 1→0, 2→1 and 1→2, what the sheet profile reads is the mesh's; so each cell's row of 2→1 is three edges that list it.
use mathlib.Core.Path.{◌≡◌, sym, ap, ◌∙◌}
use mathlib.Core.Bool.{false, not, ◌||◌}
use mathlib.Core.List.{List, Memᴰ as In}
use Prim.Native.Nat.{ℕ, ◌<◌}
use native.Mathlib.Omega.{arith}
use lib.ListN.{length}
use lib.Dec.{eqb}
use Rattle.rules.specs.Lists.{up_to, any_of, keep, has}
use Rattle.rules.specs.Book.{count}
use Rattle.rules.specs.Truth.{Mesh, number, entity, true_row, used_in}
use Rattle.rules.specs.Sequence.{Reached}
use Rattle.rules.specs.Sheet.{Flat, edges_of, cells_at, ends_at, unused, branched, unmatched, at_rim, rim_edges_of, rim_vertices_of}
use Rattle.promises.specs.SheetPlan.{rim_of, rim_points}
use Rattle.rules.proofs.Tests.{any_none, all-of, has_of}
use Rattle.rules.proofs.Keep.{keep-agree, keep-is, up_to-is}
use Rattle.rules.proofs.Numbered.{any-agree}
use Rattle.rules.proofs.First.{keep_same}
use Rattle.rules.proofs.TrueRows.{number-top, vertex-row}
use Rattle.rules.proofs.SheetMesh.{row-three}
use Rattle.promises.proofs.Kept.{Kept, kept-dim, reached-kept}
use Rattle.promises.proofs.DemandThree.{first_count, row-true, both_ways, valid}
use Rattle.promises.proofs.Euler.{vertices-true, used-true}

module _ (m : Mesh) (ws : List ℕ) (r : Reached m ws) (a : Flat ws) where
  kept : Kept m ws
  kept = reached-kept m ws r

  pub in_two : m.dims ≡ 2
  in_two = sym (kept-dim m ws kept) ∙ a.two

  -- ---- counts and rows
  pub edge_count : count ws 1 ≡ number m 1
  edge_count = first_count m ws kept 1 0 (omega arith) a.ends

  cell-count : count ws 2 ≡ number m 2
  cell-count = first_count m ws kept 2 1 (omega (arith, in_two)) a.edges

  pub cells-length : count ws 2 ≡ length m.cells
  cells-length = cell-count ∙ ap (number m) (sym in_two) ∙ number-top m kept.formed.low

  pub cells-at : (k : ℕ) → k < number m 1 → cells_at ws k ≡ true_row m 1 2 k
  unfolding cells_at
  cells-at k l = row-true m ws kept 1 2 (omega (arith, in_two)) a.cells k l

  ends-at : (k : ℕ) → k < number m 1 → ends_at ws k ≡ entity m 1 k
  unfolding ends_at
  ends-at k l = row-true m ws kept 1 0 (omega arith) a.ends k l ∙ vertex-row m kept.formed 1 k (omega arith) (omega (arith, in_two)) l

  -- an edge that a cell lists is one, and a cell that an edge lists
  pub edge-below : (c k : ℕ) → c < count ws 2 → In k (edges_of ws c) → k < count ws 1
  unfolding edges_of
  edge-below c k l i = (valid m ws r 2 1 c k (omega (arith, in_two)) (omega (arith, in_two)) a.edges l (has_of i)).0

  pub cell_below : (k c : ℕ) → k < count ws 1 → In c (cells_at ws k) → c < count ws 2
  unfolding cells_at
  cell_below k c l i = (valid m ws r 1 2 k c (omega (arith, in_two)) (omega (arith, in_two)) a.cells l (has_of i)).0

  -- each lists the other or neither does
  pub both-list : (c k : ℕ) → c < count ws 2 → k < count ws 1 → has k (edges_of ws c) ≡ has c (cells_at ws k)
  unfolding edges_of cells_at
  both-list c k l n = both_ways m ws r 2 1 c k (omega (arith, in_two)) (omega (arith, in_two)) a.edges a.cells l n

  three : (c : ℕ) → c < count ws 2 → length (edges_of ws c) ≡ 3
  unfolding edges_of
  three c l =
      let n : c < number m 2 = rw cell-count at l in
      ap length (row-true m ws kept 2 1 (omega (arith, in_two)) a.edges c n) ∙ row-three m kept.formed in_two c n

  -- ---- the tests of the call
  pub is-unused : (v : ℕ) → unused ws v ≡ not (has v (used_in m))
  unfolding unused
  is-unused v = rw (used-true m ws kept)

  pub is-branched : (k : ℕ) → k < number m 1 → branched ws k ≡ not (eqb (length (true_row m 1 2 k)) 1 || eqb (length (true_row m 1 2 k)) 2)
  unfolding branched
  is-branched k l = rw (cells-at k l)

  pub all-matched : any_of (unmatched ws) (up_to (count ws 2)) ≡ false
  unfolding unmatched
  all-matched =
      any_none (unmatched ws) (up_to (count ws 2))
      (λ c i.
      let l = up_to-is c (count ws 2) i in
      rw (three c l, all-of (λ k. has c (cells_at ws k)) (edges_of ws c) (λ k j. sym (both-list c k l (edge-below c k l j)) ∙ has_of j)))

  -- ---- the rim
  pub rim-is : rim_edges_of ws ≡ rim_of m
  unfolding rim_edges_of at_rim rim_of
  rim-is = rw edge_count (keep_same (at_rim ws) (λ k. eqb (length (true_row m 1 2 k)) 1) (number m 1) (λ k l. rw (cells-at k l)))

  rim-edge : (k : ℕ) → In k (rim_of m) → k < number m 1
  unfolding rim_of
  rim-edge k i = up_to-is k (number m 1) (keep-is (λ k. eqb (length (true_row m 1 2 k)) 1) (up_to (number m 1)) i).0

  -- those at a vertex
  pub at-vertex : (v : ℕ) → keep (λ k. has v (ends_at ws k)) (rim_edges_of ws) ≡ keep (λ k. has v (entity m 1 k)) (rim_of m)
  at-vertex v = rw rim-is (keep-agree (λ k. has v (ends_at ws k)) (λ k. has v (entity m 1 k)) (rim_of m) (λ k i. rw (ends-at k (rim-edge k i))))

  pub points-are : rim_vertices_of ws ≡ rim_points m
  unfolding rim_vertices_of rim_points
  points-are =
      rw (vertices-true m ws kept, rim-is)
      (keep_same (λ v. any_of (λ k. has v (ends_at ws k)) (rim_of m)) (λ v. any_of (λ k. has v (entity m 1 k)) (rim_of m)) m.vertices
      (λ v l. any-agree (λ k. has v (ends_at ws k)) (λ k. has v (entity m 1 k)) (rim_of m) (λ k j. rw (ends-at k (rim-edge k j)))))
