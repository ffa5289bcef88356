-- The rim of a right book with D = 2 that holds 1→0, 2→1 and 1→2: its mesh can stand in a file, and its file is the file of that mesh.
use mathlib.Core.Path.{◌≡◌, refl, sym, ap, ◌∙◌}
use mathlib.Core.Bool.{true, false}
use mathlib.Core.List.{List, [], ◌++◌, map, map-map, Memᴰ as In}
use Prim.Native.Nat.{ℕ, ◌+◌, ◌*◌, ◌/◌, ◌≤◌, ◌<◌}
use native.Mathlib.Omega.{arith}
use lib.ListN.{length, get_or, drop, length-map}
use Rattle.rules.specs.Lists.{up_to, any_of, keep, has, repeats, joined, ascends, sorted}
use Rattle.rules.specs.File.{cells_in_file, length_of, twice, file_bytes, put_file}
use Rattle.rules.specs.Book.{count, key}
use Rattle.rules.specs.Calls.{loaded}
use Rattle.rules.specs.Truth.{first_word}
use Rattle.rules.specs.Sheet.{Flat, ends_at, at_rim, rim_edges_of, rim_vertices_of, rim_number, rim_mesh, rim_file, rim_length_of}
use Rattle.rules.proofs.Tests.{get_or-in, any-of, any_none, has_of}
use Rattle.rules.proofs.Keep.{keep-of, keep-is, up_to-of, up_to-is}
use Rattle.rules.proofs.Numbered.{map-agree, get_d_map}
use Rattle.rules.proofs.First.{keep-length}
use Rattle.rules.proofs.Ascending.{keep-up_to-up}
use Rattle.rules.proofs.Sorted.{sorted-same, up-once}
use Rattle.rules.proofs.Distinct.{map_is}
use Rattle.rules.proofs.Needs.{key-div, key-mod}
use Rattle.rules.proofs.FrameRule.{Framed, framed}
use Rattle.rules.proofs.RowRule.{row-ascends, row_below, entity-vertices}
use Rattle.rules.proofs.Accepted.{Loads}
use Rattle.rules.proofs.Bits.{length-packed}
use Rattle.rules.proofs.Stored.{Stored, file_of, file_bits, cells-back, dims-back, count-back, stored-loads, file-put}
use Rattle.rules.proofs.LoadedWords.{loaded-length}
use Rattle.rules.proofs.Ranked.{rank_below, rank-at, rank_up, map-up, map-undo, rank-counts}
use Rattle.rules.proofs.Unlike.{repeats-map}

-- ---- on any words
pub rim-cells : (ws : List ℕ) → (rim_mesh ws).cells ≡ map (λ k. map (rim_number ws) (ends_at ws k)) (rim_edges_of ws)
unfolding rim_mesh
rim-cells ws = refl

pub rim-up : (ws : List ℕ) → ascends (rim_vertices_of ws) ≡ true
unfolding rim_vertices_of
rim-up ws = keep-up_to-up _ (count ws 0)

edges-up : (ws : List ℕ) → ascends (rim_edges_of ws) ≡ true
unfolding rim_edges_of
edges-up ws = keep-up_to-up (at_rim ws) (count ws 1)

pub rim-below : (ws : List ℕ) (k : ℕ) → In k (rim_edges_of ws) → k < count ws 1
unfolding rim_edges_of
rim-below ws k i = up_to-is k (count ws 1) (keep-is (at_rim ws) (up_to (count ws 1)) i).0

-- the new number of a rim vertex is the number of rim vertices below it
pub rim-counts : (ws : List ℕ) (v : ℕ) → In v (rim_vertices_of ws) → rim_number ws v ≡ length (keep (λ u. any_of (λ k. has u (ends_at ws k)) (rim_edges_of ws)) (up_to v))
unfolding rim_number rim_vertices_of
rim-counts ws v i =
    let (j, q) = keep-is _ (up_to (count ws 0)) i in
    rank-counts (λ u. any_of (λ k. has u (ends_at ws k)) (rim_edges_of ws)) v (count ws 0) (up_to-is v (count ws 0) j) q

pub rim-file : (ws : List ℕ) → rim_file ws ≡ file_of (rim_mesh ws)
unfolding rim_file file_bytes file_of file_bits rim_mesh
rim-file ws = rw length-map

pub rim-length : (ws : List ℕ) → rim_length_of ws ≡ length_of 1 (length (rim_edges_of ws))
unfolding rim_length_of rim_file file_bytes
rim-length ws = length-packed (length_of 1 (length (rim_edges_of ws))) _

module _ (ws : List ℕ) (a : Flat ws) where
  frame : Framed ws
  frame = framed ws a.frame

  row-of : (k : ℕ) → k < count ws 1 → k < count ws (key 1 0 / 4)
  row-of k l = rw (key-div 1 0 (omega arith)) l

  -- the ends of an edge: two vertices, ascending
  ends-up : (k : ℕ) → k < count ws 1 → ascends (ends_at ws k) ≡ true
  unfolding ends_at
  ends-up k l = row-ascends ws frame a.rows (key 1 0) a.ends k (row-of k l)

  ends-two : (k : ℕ) → k < count ws 1 → length (ends_at ws k) ≡ 2
  unfolding ends_at
  ends-two k l = entity-vertices ws frame a.rows 1 (omega arith) a.ends k l

  pub ends-below : (k v : ℕ) → k < count ws 1 → In v (ends_at ws k) → v < count ws 0
  unfolding ends_at
  ends-below k v l i = rw (key-mod 1 0 (omega arith)) at (row_below ws frame a.rows (key 1 0) a.ends k v (row-of k l) (has_of i))

  -- those of a rim edge are rim vertices
  pub ends-in : (k v : ℕ) → In k (rim_edges_of ws) → In v (ends_at ws k) → In v (rim_vertices_of ws)
  unfolding rim_vertices_of
  ends-in k v i j =
      keep-of (λ v. any_of (λ k. has v (ends_at ws k)) (rim_edges_of ws)) (up_to (count ws 0)) (up_to-of v (count ws 0) (ends-below k v (rim-below ws k i) j))
      (any-of (λ k. has v (ends_at ws k)) i (has_of j))

  -- and ascend by their new numbers too, which lie below the number of rim vertices
  pub cell-up : (k : ℕ) → In k (rim_edges_of ws) → ascends (map (rim_number ws) (ends_at ws k)) ≡ true
  unfolding rim_number
  cell-up k i =
      map-up (rim_number ws) (ends_at ws k) (ends-up k (rim-below ws k i))
      (λ x y p q l. rank_up x y (rim_vertices_of ws) (rim-up ws) (ends-in k x i p) (ends-in k y i q) l)

  pub cell_below : (k v : ℕ) → In k (rim_edges_of ws) → In v (map (rim_number ws) (ends_at ws k)) → v < length (rim_vertices_of ws)
  unfolding rim_number
  cell_below k v i j = let (x, p, e) = map_is (rim_number ws) (ends_at ws k) j in rw e (rank_below x (rim_vertices_of ws) (ends-in k x i p))

  pub few-vertices : length (rim_vertices_of ws) ≤ 8192
  unfolding rim_vertices_of
  few-vertices = omega (arith, keep-length (λ v. any_of (λ k. has v (ends_at ws k)) (rim_edges_of ws)) (count ws 0), frame.vertices)

  cell-of : (c : List ℕ) → In c (rim_mesh ws).cells → (k : ℕ) × In k (rim_edges_of ws) × (c ≡ map (rim_number ws) (ends_at ws k))
  cell-of c i = map_is (λ k. map (rim_number ws) (ends_at ws k)) (rim_edges_of ws) (rw (rim-cells ws) at i)

  rim-once : any_of twice (rim_mesh ws).cells ≡ false
  rim-once = any_none twice (rim_mesh ws).cells (λ c i. let (k, j, e) = cell-of c i in rw e (up-once (map (rim_number ws) (ends_at ws k)) (cell-up k j)))

  -- a rim edge's ends, taken back from their new numbers
  ends-back : (k : ℕ) → In k (rim_edges_of ws) → map (λ n. get_or (rim_vertices_of ws) n 0) (map (rim_number ws) (ends_at ws k)) ≡ ends_at ws k
  unfolding rim_number
  ends-back k i = map-undo (λ n. get_or (rim_vertices_of ws) n 0) (rim_number ws) (ends_at ws k) (λ v j. rank-at v 0 (rim_vertices_of ws) (ends-in k v i j))

  rim-apart : ((x y : ℕ) → x < count ws 1 → y < count ws 1 → ends_at ws x ≡ ends_at ws y → x ≡ y) → repeats (map sorted (rim_mesh ws).cells) ≡ false
  rim-apart h =
      rw (rim-cells ws, map-map, map-agree (λ k. sorted (map (rim_number ws) (ends_at ws k))) (λ k. map (rim_number ws) (ends_at ws k)) (rim_edges_of ws) (λ k i. sorted-same _ (cell-up k i)))
      (repeats-map (λ k. map (rim_number ws) (ends_at ws k)) (rim_edges_of ws) (edges-up ws)
      (λ x y i j e. h x y (rim-below ws x i) (rim-below ws y j) (sym (ends-back x i) ∙ ap (map (λ n. get_or (rim_vertices_of ws) n 0)) e ∙ ends-back y j)))

  -- ---- and its rim has at most 4,096 edges
  module _ (few : length (rim_edges_of ws) ≤ 4096) where
    pub rim-stored : Stored (rim_mesh ws)
    rim-stored = record {
      low = unfold rim_mesh in omega arith;
      high = unfold rim_mesh in omega arith;
      vertices = unfold rim_mesh in few-vertices;
      cells = rw (rim-cells ws, length-map) few;
      size = λ c i. let (k, j, e) = cell-of c i in rw (e, length-map) (ends-two k (rim-below ws k j) ∙ unfold rim_mesh in refl);
      below = λ c i v l. let (k, j, e) = cell-of c i in unfold rim_mesh in cell_below k v j (rw e at l);
    }

    -- Load accepts its file in every book that has room, where no two edges have the same ends
    pub rim-loads : ((x y : ℕ) → x < count ws 1 → y < count ws 1 → ends_at ws x ≡ ends_at ws y → x ≡ y) → (us : List ℕ) → 6 + 3 * length (rim_edges_of ws) ≤ length us → Loads (rim_file ws) us
    rim-loads h us l =
        let n : length (loaded (file_of (rim_mesh ws))) ≤ length us = rw (loaded-length, count-back (rim_mesh ws) rim-stored, dims-back (rim_mesh ws) rim-stored, rim-cells ws, length-map) (unfold rim_mesh in omega arith) in
        rw rim-file (stored-loads (rim_mesh ws) rim-stored rim-once (rim-apart h) us n)

    -- and reads these cells from it
    pub rim-back : cells_in_file (rim_file ws) ≡ map (λ k. map (rim_number ws) (ends_at ws k)) (rim_edges_of ws)
    rim-back = rw rim-file (cells-back (rim_mesh ws) rim-stored ∙ rim-cells ws)

    -- the maps lead back: cell j of the file, taken back by the map of vertices, is the ends of the edge at place j of the map of edges
    pub maps-back : (j : ℕ) → j < length (rim_edges_of ws) → map (λ n. get_or (rim_vertices_of ws) n 0) (get_or (cells_in_file (rim_file ws)) j []) ≡ ends_at ws (get_or (rim_edges_of ws) j 0)
    maps-back j l = rw (rim-back, get_d_map (λ k. map (rim_number ws) (ends_at ws k)) (rim_edges_of ws) j 0 [] l) (ends-back (get_or (rim_edges_of ws) j 0) (get_or-in (rim_edges_of ws) j 0 l))

    -- it is put at the front of the lent bytes
    pub rim-put : (bs : List ℕ) → rim_length_of ws ≤ length bs → put_file (first_word (rim_mesh ws)) (joined (rim_mesh ws).cells) bs ≡ rim_file ws ++ drop (rim_length_of ws) bs
    unfolding rim_length_of
    rim-put bs l = rw rim-file (file-put (rim_mesh ws) rim-stored bs (rw rim-file at l))
