-- Boxes on any book, whoever wrote it: an entity's vertices lie in its box, and the cells' boxes in the whole mesh's.
use mathlib.Core.Path.{◌≡◌, refl, sym, ap, ◌∙◌}
use mathlib.Core.Logic.{inl, inr}
use mathlib.Core.Bool.{true, ◌||◌}
use mathlib.Core.List.{List, [], Memᴰ as In}
use Prim.Native.Nat.{ℕ, zero, suc, ◌+◌, ◌*◌, ◌<◌}
use native.Mathlib.Omega.{arith}
use lib.ListN.{length, get_or}
use lib.Dec.{ltb, eqb}
use lib.Ieee.{Float}
use borrow.Author.Tests.{ltb-true, lt-ltb, eq-eqb, ne_eqb}
use Rattle.rules.specs.Lists.{up_to, any_of, has, members_below}
use Rattle.rules.specs.Book.{dim, count, key, row_of, rows_of, rows_right}
use Rattle.rules.specs.Calls.{first_broken, used_vertices}
use Rattle.rules.specs.Boxes.{vertices_of, entity_box, whole_box, coordinate_rules, whole_rules, whole_number}
use Rattle.rules.proofs.Tests.{agree, or_right, get_or-in, any-of, any-is, has_of, has-is}
use Rattle.rules.proofs.Keep.{keep-of, keep-is, up_to-of}
use Rattle.rules.proofs.Distinct.{map_of}
use Rattle.rules.proofs.Searched.{place_in}
use Rattle.rules.proofs.FrameRule.{Framed, framed}
use Rattle.rules.proofs.RowRule.{entity-vertices}
use Rattle.rules.proofs.RightCells.{cells_of, cells-rows, cells-number, cell-length, cell_below}
use Rattle.rules.proofs.Accepted.{Boxes, boxes, wholes}
use Rattle.promises.specs.Boxes.{BoxThere, EveryVertex, EachEnd, WholeThere, EveryUsed, EachWholeEnd, CellsWithin}
use Rattle.promises.proofs.BoxOver.{ends-number, some-ends, some-within, attained, lies-in, box-within}

-- ---- an entity's vertices
pub vertices-row : (ws : List ℕ) (d i : ℕ) → 0 < d → vertices_of ws d i ≡ row_of ws (key d 0) i
unfolding vertices_of
vertices-row ws d i p = rw (ne_eqb d 0 (λ e. omega arith))

-- an accepted entity has d + 1
pub vertices-number : (ws : List ℕ) (coordinates : List Float) (axes d i : ℕ) → Boxes ws coordinates axes d i → length (vertices_of ws d i) ≡ d + 1
unfolding vertices_of
vertices-number ws coordinates axes zero i a = refl
vertices-number ws coordinates axes (suc d) i a =
    rw (ne_eqb (suc d) 0 (λ e. omega arith)) (entity-vertices ws (framed ws a.frame) a.rows (suc d) (omega arith) (a.there (omega arith)) i a.below)

pub box-there : BoxThere
unfolding entity_box
box-there ws coordinates axes d i z =
    ends-number axes coordinates (vertices_of ws d i) ∙ rw (vertices-number ws coordinates axes d i (boxes ws coordinates axes d i z), ne_eqb (d + 1) 0 (λ e. omega arith))

pub every-vertex : EveryVertex
unfolding entity_box
every-vertex ws coordinates axes d i z v h =
    lies-in axes coordinates (boxes ws coordinates axes d i z).lent.numbers (vertices_of ws d i) v (has-is v (vertices_of ws d i) h)

pub each-end : EachEnd
unfolding entity_box
each-end ws coordinates axes d i z k l =
    attained axes coordinates (vertices_of ws d i) (omega (arith, vertices-number ws coordinates axes d i (boxes ws coordinates axes d i z))) k l

-- ---- the vertices that lie in a cell
module _ (ws : List ℕ) (f : Framed ws) (r : rows_right ws ≡ true) where
  used-of : (c : List ℕ) → In c (cells_of ws) → (v : ℕ) → In v c → In v (used_vertices ws)
  unfolding used_vertices members_below
  used-of c i v j =
      keep-of (λ u. any_of (has u) (rows_of ws (key (dim ws) 0))) (up_to (count ws 0)) (up_to-of v (count ws 0) (cell_below ws f r c i v j))
      (any-of (has v) (rw (cells-rows ws) at i) (has_of j))

  cell_in : (i : ℕ) → i < count ws (dim ws) → In (row_of ws (key (dim ws) 0) i) (cells_of ws)
  unfolding cells_of
  cell_in i l = map_of (row_of ws (key (dim ws) 0)) (up_to-of i (count ws (dim ws)) l)

  pub cell-used : (i : ℕ) → i < count ws (dim ws) → (v : ℕ) → In v (row_of ws (key (dim ws) 0) i) → In v (used_vertices ws)
  cell-used i l = used-of (row_of ws (key (dim ws) 0) i) (cell_in i l)

  some-cell : 0 < length (used_vertices ws) → 0 < count ws (dim ws)
  unfolding used_vertices members_below
  some-cell p =
      let (x, h) = keep-is (λ u. any_of (has u) (rows_of ws (key (dim ws) 0))) (up_to (count ws 0)) (get_or-in (used_vertices ws) 0 0 p) in
      let (c, i, g) = any-is (has (get_or (used_vertices ws) 0 0)) (rows_of ws (key (dim ws) 0)) h in
      let (j, l, e) = place_in (rows_of ws (key (dim ws) 0)) [] i in
      omega (arith, cells-number ws, ap length (cells-rows ws))

  some-vertex : 0 < count ws (dim ws) → 0 < length (used_vertices ws)
  some-vertex q =
      let c = row_of ws (key (dim ws) 0) 0 in
      let i = cell-used 0 q (get_or c 0 0) (get_or-in c 0 0 (omega (arith, cell-length ws f r c (cell_in 0 q)))) in
      let (j, l, e) = place_in (used_vertices ws) 0 i in
      omega arith

  -- there is one exactly where there is a cell
  some-used : ltb 0 (length (used_vertices ws)) ≡ ltb 0 (count ws (dim ws))
  some-used =
      agree (ltb 0 (length (used_vertices ws))) (ltb 0 (count ws (dim ws)))
      (λ p. lt-ltb 0 (count ws (dim ws)) (some-cell (ltb-true _ _ p)))
      (λ q. lt-ltb 0 (length (used_vertices ws)) (some-vertex (ltb-true _ _ q)))

pub every-used : EveryUsed
unfolding whole_box
every-used ws coordinates axes z v h =
    lies-in axes coordinates (wholes ws coordinates axes z).lent.numbers (used_vertices ws) v (has-is v (used_vertices ws) h)

pub each-whole-end : EachWholeEnd
unfolding whole_box
each-whole-end ws coordinates axes z s k l =
    attained axes coordinates (used_vertices ws) (ltb-true _ _ (sym (some-ends axes coordinates (used_vertices ws)) ∙ s)) k l

pub whole-there : WholeThere
unfolding whole_box
whole-there ws coordinates axes z =
    let a = wholes ws coordinates axes z in
    (ends-number axes coordinates (used_vertices ws), some-ends axes coordinates (used_vertices ws) ∙ some-used ws (framed ws a.frame) a.rows)

-- ---- where an entity's box is given, the whole mesh's is
pub whole-given : (ws : List ℕ) (coordinates : List Float) (axes d i : ℕ) → Boxes ws coordinates axes d i → whole_number ws coordinates axes ≡ 0
unfolding whole_number whole_rules coordinate_rules first_broken
whole-given ws coordinates axes d i a =
    let t : (eqb axes 2 || eqb axes 3) ≡ true = elim a.lent.across [ inl e ↦ rw (eq-eqb axes 2 e) | inr e ↦ or_right (eqb axes 2) (eqb axes 3) (eq-eqb axes 3 e) ] in
    rw (a.frame, a.rows, t, eq-eqb (length coordinates) (axes * count ws 0) a.lent.a-vertex, a.lent.numbers)

pub cells-within : CellsWithin
unfolding whole_box entity_box
cells-within ws coordinates axes i z =
    let a = boxes ws coordinates axes (dim ws) i z in
    let f = framed ws a.frame in
    let n : 0 < length (vertices_of ws (dim ws) i) = omega (arith, vertices-number ws coordinates axes (dim ws) i a) in
    let w : (v : ℕ) → In v (vertices_of ws (dim ws) i) → In v (used_vertices ws) = λ v j. cell-used ws f a.rows i a.below v (rw (vertices-row ws (dim ws) i f.low) at j) in (
      whole-given ws coordinates axes (dim ws) i a,
      some-within axes coordinates (used_vertices ws) (vertices_of ws (dim ws) i) n w,
      box-within axes coordinates a.lent.numbers (used_vertices ws) (vertices_of ws (dim ws) i) n w,
    )
