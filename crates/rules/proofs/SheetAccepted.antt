-- What an accepted call of the sheet profile has passed, what a sheet says of each edge and each cell, and the cells across by their places.
use mathlib.Core.Path.{◌≡◌, refl, sym, ◌∙◌}
use mathlib.Core.Logic.{◌⊎◌, inl, inr}
use mathlib.Core.Bool.{true, false, not, ◌&&◌, ◌||◌}
use mathlib.Core.List.{List, [], ◌∷◌, map, Memᴰ as In}
use Prim.Native.Nat.{ℕ, ◌+◌, ◌*◌, ◌≤◌, ◌<◌}
use native.Mathlib.Omega.{arith}
use lib.ListN.{length, get_or, length-map}
use lib.Dec.{eqb, ltb}
use borrow.Author.Tests.{not-true, not-false, ltb-false, eqb-true}
use Rattle.rules.specs.Lists.{up_to, all_of, has, ascends}
use Rattle.rules.specs.Book.{dim, count, key, held, frame_right}
use Rattle.rules.specs.Broken.{rows_broken}
use Rattle.rules.specs.Calls.{Rule, rule, first_broken}
use Rattle.rules.specs.Sheet.{Sheet, edges_of, cells_at, across_at, across, branched, unmatched, rim_edges_of, rim_vertices_of, rim_length_of, sheet_rules, sheet_answer, sheet_number}
use Rattle.rules.proofs.Tests.{left, right, neither, off-left, off-right, or_cases, none_of, all-at}
use Rattle.rules.proofs.Keep.{up_to-of}
use Rattle.rules.proofs.Numbered.{length-rows, get_d_rows, get_d_map}
use Rattle.rules.proofs.Needs.{key-div}
use Rattle.rules.proofs.FrameRule.{framed}
use Rattle.rules.proofs.RowRule.{row-ascends}
use Rattle.rules.proofs.Told.{eleven-broken}
use Rattle.rules.proofs.Bits.{length-joined, get_or-joined}
use Rattle.rules.proofs.Accepted.{unbroken, first-number}

-- ---- the call, for lent lists of these lengths
pub record Sheets (ws : List ℕ) (acrosses bytes vertices edges : ℕ) : Type 0 where
  pub sheet : Sheet ws
  pub few : length (rim_edges_of ws) ≤ 4096
  pub room : rim_length_of ws ≤ bytes
  pub places : acrosses ≡ 3 * count ws 2
  pub vertex_places : length (rim_vertices_of ws) ≤ vertices
  pub edge_places : length (rim_edges_of ws) ≤ edges

-- its rules, with their numbers alone
numbers : List ℕ → ℕ → ℕ → ℕ → ℕ → List (Rule ℕ)
numbers ws acrosses bytes vertices edges = map (λ r. rule r.broken (get_or r.answer 0 0)) (sheet_rules ws acrosses bytes vertices edges)

number_is : (ws : List ℕ) (acrosses bytes vertices edges : ℕ) → sheet_number ws acrosses bytes vertices edges ≡ first_broken (numbers ws acrosses bytes vertices edges) 0
unfolding sheet_number sheet_answer numbers
number_is ws acrosses bytes vertices edges = first-number (λ (r : List ℕ). get_or r 0 0) (sheet_rules ws acrosses bytes vertices edges) (0 ∷ [])

pub sheets : (ws : List ℕ) (acrosses bytes vertices edges : ℕ) → sheet_number ws acrosses bytes vertices edges ≡ 0 → Sheets ws acrosses bytes vertices edges
unfolding numbers sheet_rules all_of
sheets ws acrosses bytes vertices edges z =
    let u = unbroken (numbers ws acrosses bytes vertices edges) refl (sym (number_is ws acrosses bytes vertices edges) ∙ z) in
    let d : eqb (dim ws) 2 ≡ true = search (left, right, not-true, not-false) depth 14 in
    let h : (held ws (key 1 0) && held ws (key 2 1) && held ws (key 1 2)) ≡ true = search (left, right, not-true, not-false) depth 14 in
    let n : not (not (eqb acrosses (3 * count ws 2)) || ltb vertices (length (rim_vertices_of ws)) || ltb edges (length (rim_edges_of ws))) ≡ true = search (left, right) depth 14 in
    let (o, e) = neither (not (eqb acrosses (3 * count ws 2)) || ltb vertices (length (rim_vertices_of ws))) (ltb edges (length (rim_edges_of ws))) n in
    record {
      sheet = record {
        flat = record {
          frame = search (left, right, not-true, not-false) depth 14;
          rows = search (left, right, not-true, not-false) depth 14;
          two = eqb-true (dim ws) 2 d;
          ends = search (left, right) depth 14;
          edges = search (left, right) depth 14;
          cells = search (left, right) depth 14;
        };
        used = search (left, right, not-true) depth 14;
        plain = search (left, right, not-true) depth 14;
        matched = search (left, right, not-true) depth 14;
      };
      few = search (left, right, not-true, ltb-false) depth 14;
      room = search (left, right, not-true, ltb-false) depth 14;
      places = eqb-true _ _ (not-false _ (off-left (not (eqb acrosses (3 * count ws 2))) _ o));
      vertex_places = ltb-false _ _ (off-right (not (eqb acrosses (3 * count ws 2))) _ o);
      edge_places = ltb-false _ _ e;
    }

-- with 11 there is a place to tell
pub sheet-eleven : (ws : List ℕ) (acrosses bytes vertices edges : ℕ) → sheet_number ws acrosses bytes vertices edges ≡ 11 → (frame_right ws ≡ true) × (rows_broken ws ≡ true)
unfolding numbers sheet_rules all_of
sheet-eleven ws acrosses bytes vertices edges z = eleven-broken ws _ refl (sym (number_is ws acrosses bytes vertices edges) ∙ z)

-- an edge that does not branch is in one or two cells
pub not-branched : (ws : List ℕ) (k : ℕ) → branched ws k ≡ false → (length (cells_at ws k) ≡ 1) ⊎ (length (cells_at ws k) ≡ 2)
unfolding branched
not-branched ws k h =
    elim (or_cases (eqb (length (cells_at ws k)) 1) (eqb (length (cells_at ws k)) 2) (not-false _ h)) [
      | inl e ↦ inl (eqb-true _ _ e)
      | inr e ↦ inr (eqb-true _ _ e)
    ]

-- ---- a sheet, edge by edge and cell by cell
module _ (ws : List ℕ) (a : Sheet ws) where
  -- an edge is in one or two cells
  pub one-or-two : (k : ℕ) → k < count ws 1 → (length (cells_at ws k) ≡ 1) ⊎ (length (cells_at ws k) ≡ 2)
  one-or-two k l = not-branched ws k (none_of (branched ws) a.plain (up_to-of k (count ws 1) l))

  both-parts : (c : ℕ) → c < count ws 2 → (eqb (length (edges_of ws c)) 3 && all_of (λ k. has c (cells_at ws k)) (edges_of ws c)) ≡ true
  unfolding unmatched
  both-parts c l = not-false _ (none_of (unmatched ws) a.matched (up_to-of c (count ws 2) l))

  -- a cell has three edges
  pub three-edges : (c : ℕ) → c < count ws 2 → length (edges_of ws c) ≡ 3
  three-edges c l = eqb-true _ _ (left _ _ (both-parts c l))

  -- each of which lists it
  pub edge-lists : (c k : ℕ) → c < count ws 2 → In k (edges_of ws c) → has c (cells_at ws k) ≡ true
  edge-lists c k l i = all-at (λ j. has c (cells_at ws j)) (right (eqb (length (edges_of ws c)) 3) _ (both-parts c l)) i

  -- the cells that an edge lists ascend
  pub cells_up : (k : ℕ) → k < count ws 1 → ascends (cells_at ws k) ≡ true
  unfolding cells_at
  cells_up k l = row-ascends ws (framed ws a.flat.frame) a.flat.rows (key 1 2) a.flat.cells k (rw (key-div 1 2 (omega arith)) l)

  -- ---- the list of cells across, three places a cell
  sides : List (List ℕ)
  sides = map (λ c. map (across_at ws c) (edges_of ws c)) (up_to (count ws 2))

  side-three : (c : ℕ) → c < length sides → length (get_or sides c []) ≡ 3
  unfolding sides
  side-three c l =
      let k : c < count ws 2 = rw length-rows at l in
      rw (get_d_rows (λ c. map (across_at ws c) (edges_of ws c)) (count ws 2) c [] k, length-map) (three-edges c k)

  pub across-length : length (across ws) ≡ 3 * count ws 2
  unfolding across sides
  across-length = length-joined 3 sides side-three ∙ rw length-rows

  pub across-place : (c i : ℕ) → c < count ws 2 → i < 3 → get_or (across ws) (3 * c + i) 0 ≡ across_at ws c (get_or (edges_of ws c) i 0)
  unfolding across sides
  across-place c i l k =
      get_or-joined 3 sides side-three c i (rw length-rows l) k
      ∙ rw (get_d_rows (λ c. map (across_at ws c) (edges_of ws c)) (count ws 2) c [] l) (get_d_map (across_at ws c) (edges_of ws c) i 0 0 (rw (three-edges c l) k))
