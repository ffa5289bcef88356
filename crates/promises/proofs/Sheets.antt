-- The sheet profile, promised: across and back, the even rim, and the rim's file.
use mathlib.Core.Path.{◌≡◌, refl, sym, ap, ◌∙◌}
use mathlib.Core.Logic.{inl, inr}
use mathlib.Core.Bool.{Bool, true, false, not, true≢false}
use mathlib.Core.List.{List, [], ◌∷◌, ◌++◌, map, append-nil, Memᴰ as In}
use Prim.Native.Nat.{ℕ, ◌%◌, ◌≤◌, ◌<◌}
use native.Mathlib.Omega.{arith}
use lib.ListN.{length, get_or, drop, length-map, get_or-append, get_or-eq_default}
use lib.Seq.{drop-length, take-append_seam}
use lib.Dec.{eqb}
use borrow.Author.Tests.{eqb-true, eq-eqb}
use Rattle.rules.specs.Lists.{up_to, all_of, keep, first_at, has, same}
use Rattle.rules.specs.File.{cells_in_file}
use Rattle.rules.specs.Book.{count}
use Rattle.rules.specs.Calls.{at_front}
use Rattle.rules.specs.Truth.{Mesh}
use Rattle.rules.specs.Sequence.{Reached}
use Rattle.rules.specs.Sheet.{Sheet, edges_of, cells_at, ends_at, across_at, across, at_rim, rim_edges_of, rim_vertices_of, rim_number, rim_file, rim_length_of, sheet_for, sheet_across, sheet_bytes, sheet_vertices, sheet_edges}
use Rattle.promises.specs.SheetPlan.{rim_of, sheet_plan}
use Rattle.promises.specs.Sheets.{rim_bytes, Across, BackAndForth, NoneAtRim, EvenRim, EvenFile, RimAccepted, AlwaysMatched, Written, MapsBack, PlacesKept}
use Rattle.rules.proofs.Compared.{lt-or-le}
use Rattle.rules.proofs.Tests.{agree, get_or-in, has_of, has-is, same_refl}
use Rattle.rules.proofs.Keep.{keep-agree, keep-of, keep-is, up_to-of}
use Rattle.rules.proofs.Numbered.{map-agree, get_d_map}
use Rattle.rules.proofs.FrameRule.{framed}
use Rattle.rules.proofs.Accepted.{accepts}
use Rattle.rules.proofs.Faultless.{first-all}
use Rattle.rules.proofs.Salvaged.{front_length}
use Rattle.rules.proofs.Distinct.{map_of, map_is}
use Rattle.rules.proofs.Ranked.{rank_below, rank-at, rank-of, other, other_none}
use Rattle.rules.proofs.Rim.{rim-up, rim-below, ends-below, ends-in, cell_below, rim-loads, rim-back, maps-back}
use Rattle.rules.proofs.Counted.{keep-map}
use Rattle.rules.proofs.SheetMesh.{even-edges}
use Rattle.rules.proofs.SheetAccepted.{Sheets, sheets, one-or-two, three-edges, edge-lists, cells_up, across-length, across-place}
use Rattle.promises.proofs.Kept.{reached-kept}
use Rattle.promises.proofs.DemandThree.{different}
use Rattle.promises.proofs.SheetTrue.{in_two, edge_count, cells-at, edge-below, cell_below as cell-listed, both-list, at-vertex}
use Rattle.promises.proofs.SheetPlanned.{sheet-planned}

-- ---- on any book
passed : (ws xs bs vs es : List ℕ) → sheet_for ws xs bs vs es ≡ 0 → Sheets ws (length xs) (length bs) (length vs) (length es)
unfolding sheet_for
passed ws xs bs vs es h = sheets ws (length xs) (length bs) (length vs) (length es) h

pub places-kept : PlacesKept
unfolding sheet_across sheet_bytes sheet_vertices sheet_edges rim_length_of
places-kept ws xs bs vs es = (
  front_length (sheet_for ws xs bs vs es) (across ws) xs (λ h. let a = passed ws xs bs vs es h in omega (arith, across-length ws a.sheet, a.places)),
  front_length (sheet_for ws xs bs vs es) (rim_file ws) bs (λ h. (passed ws xs bs vs es h).room),
  front_length (sheet_for ws xs bs vs es) (rim_vertices_of ws) vs (λ h. (passed ws xs bs vs es h).vertex_places),
  front_length (sheet_for ws xs bs vs es) (rim_edges_of ws) es (λ h. (passed ws xs bs vs es h).edge_places),
)

pub written : Written
unfolding sheet_across sheet_bytes sheet_vertices sheet_edges rim_length_of at_front
written ws xs bs vs es h =
    let a = passed ws xs bs vs es h in
    let e : drop (length (across ws)) xs ≡ [] = let q : length (across ws) ≡ length xs = across-length ws a.sheet ∙ sym a.places in rw q (drop-length xs) in
    (rw (h, e) (append-nil (across ws)), rw h, rw h, rw h)

-- the bytes written are the rim's file
bytes-written : (ws xs bs vs es : List ℕ) → sheet_for ws xs bs vs es ≡ 0 → rim_bytes ws xs bs vs es ≡ rim_file ws
unfolding rim_length_of
bytes-written ws xs bs vs es h = rw (written ws xs bs vs es h).1 (take-append_seam (rim_file ws) (drop (length (rim_file ws)) bs))

pub maps-lead-back : MapsBack
maps-lead-back ws xs bs vs es h j l =
    let a = passed ws xs bs vs es h in
    let (x, y, z, w) = written ws xs bs vs es h in
    let f = a.sheet.flat in
    let c = get_or (cells_in_file (rim_file ws)) j [] in
    let k = get_or (rim_edges_of ws) j 0 in
    let e : c ≡ map (rim_number ws) (ends_at ws k) = rw (rim-back ws f a.few) (get_d_map (λ k. map (rim_number ws) (ends_at ws k)) (rim_edges_of ws) j 0 [] l) in
    rw (bytes-written ws xs bs vs es h, z, w, get_or-append (rim_edges_of ws) (drop (length (rim_edges_of ws)) es) 0 j l)
    (map-agree (λ n. get_or (rim_vertices_of ws ++ drop (length (rim_vertices_of ws)) vs) n 0) (λ n. get_or (rim_vertices_of ws) n 0) c
    (λ n i. get_or-append (rim_vertices_of ws) (drop (length (rim_vertices_of ws)) vs) 0 n (cell_below ws f k n (get_or-in (rim_edges_of ws) j 0 l) (rw e at i)))
    ∙ maps-back ws f a.few j l)

-- ---- on a book as in demand 3
module _ (m : Mesh) (ws : List ℕ) (r : Reached m ws) (a : Sheet ws) where
  own : (c k : ℕ) → c < count ws 2 → In k (edges_of ws c) → In c (cells_at ws k)
  own c k l i = has-is c (cells_at ws k) (edge-lists ws a c k l i)

  -- across an edge, and back
  record Turn (c k b : ℕ) : Type 0 where
    cell : b < count ws 2
    other : b ≡ c → ⊥
    edge : In k (edges_of ws b)
    back : across_at ws b k ≡ c

  turn : (c k : ℕ) → c < count ws 2 → In k (edges_of ws c) → length (cells_at ws k) ≡ 2 → Turn c k (across_at ws c k)
  unfolding across_at
  turn c k l i two =
      let q = edge-below m ws r a.flat c k l i in
      let o = other (cells_at ws k) c 65535 (cells_up ws a k q) two (own c k l i) in
      let b = cell-listed m ws r a.flat k _ q o.member in
      record { cell = b; other = o.apart; edge = has-is k _ (both-list m ws r a.flat _ k b q ∙ has_of o.member); back = o.back }

  -- none stands across a rim edge, and across any other there is a cell
  at-rim : (c k : ℕ) → c < count ws 2 → In k (edges_of ws c) → length (cells_at ws k) ≡ 1 → across_at ws c k ≡ 65535
  unfolding across_at
  at-rim c k l i one = other_none (cells_at ws k) c 65535 one (own c k l i)

  few-cells : count ws 2 ≤ 4096
  few-cells = rw a.flat.two at (framed ws a.flat.frame).cells

  one_cell : (c k : ℕ) → c < count ws 2 → In k (edges_of ws c) → across_at ws c k ≡ 65535 → length (cells_at ws k) ≡ 1
  one_cell c k l i h = elim (one-or-two ws a k (edge-below m ws r a.flat c k l i)) [ inl e ↦ e | inr e ↦ absurd (omega (arith, (turn c k l i e).cell, few-cells)) ]

  is-rim : (k : ℕ) → k < count ws 1 → length (cells_at ws k) ≡ 1 → has k (rim_edges_of ws) ≡ true
  unfolding rim_edges_of at_rim
  is-rim k l e = has_of (keep-of (at_rim ws) (up_to (count ws 1)) (up_to-of k (count ws 1) l) (eq-eqb (length (cells_at ws k)) 1 e))

  rim-one : (k : ℕ) → has k (rim_edges_of ws) ≡ true → length (cells_at ws k) ≡ 1
  unfolding rim_edges_of at_rim
  rim-one k h = eqb-true _ _ (keep-is (at_rim ws) (up_to (count ws 1)) (has-is k _ h)).1

  there_and_back : (c i : ℕ) → c < count ws 2 → i < 3 → (across_at ws c (get_or (edges_of ws c) i 0) ≡ 65535 → ⊥) → Across ws (across ws) c i (across_at ws c (get_or (edges_of ws c) i 0))
  there_and_back c i l h n =
      let k = get_or (edges_of ws c) i 0 in
      let j : In k (edges_of ws c) = get_or-in (edges_of ws c) i 0 (rw (three-edges ws a c l) h) in
      let two : length (cells_at ws k) ≡ 2 = elim (one-or-two ws a k (edge-below m ws r a.flat c k l j)) [ inl e ↦ absurd (n (at-rim c k l j e)) | inr e ↦ e ] in
      let t = turn c k l j two in
      let b = across_at ws c k in
      let p = first_at (eqb k) (edges_of ws b) in
      let w : p < 3 = omega (arith, rank_below k (edges_of ws b) t.edge, three-edges ws a b t.cell) in
      let g : get_or (edges_of ws b) p 0 ≡ k = rank-at k 0 (edges_of ws b) t.edge in
      record { cell = t.cell; other = t.other; at = p; low = w; edge = g; back = across-place ws a b p t.cell w ∙ ap (across_at ws b) g ∙ t.back }

  -- the rim edges at a vertex
  even-old : (v : ℕ) → length (keep (λ k. has v (ends_at ws k)) (rim_edges_of ws)) % 2 ≡ 0
  unfolding rim_of
  even-old v =
      ap (λ (ks : List ℕ). length ks % 2) (at-vertex m ws r a.flat v)
      ∙ even-edges m (reached-kept m ws r).formed (in_two m ws r a.flat) (λ k l. rw (cells-at m ws r a.flat k l) at (one-or-two ws a k (rw (edge_count m ws r a.flat) l))) v

  -- the same by new numbers: those of a rim edge's ends, and no others
  new-number : (k v : ℕ) → In k (rim_edges_of ws) → has v (map (rim_number ws) (ends_at ws k)) ≡ has (get_or (rim_vertices_of ws) v (count ws 0)) (ends_at ws k)
  unfolding rim_number
  new-number k v i =
      let f = a.flat in
      let x = get_or (rim_vertices_of ws) v (count ws 0) in
      agree (has v (map (rim_number ws) (ends_at ws k))) (has x (ends_at ws k))
      (λ h.
      let (y, j, q) = map_is (rim_number ws) (ends_at ws k) (has-is v (map (rim_number ws) (ends_at ws k)) h) in
      let g : x ≡ y = ap (λ (n : ℕ). get_or (rim_vertices_of ws) n (count ws 0)) q ∙ rank-at y (count ws 0) (rim_vertices_of ws) (ends-in ws f k y i j) in
      rw g (has_of j))
      (λ h.
      let j = has-is x (ends_at ws k) h in
      let b = ends-below ws f k x (rim-below ws k i) j in
      elim (lt-or-le v (length (rim_vertices_of ws))) [
        | inl l ↦ rw (rank-of (rim_vertices_of ws) v (count ws 0) (rim-up ws) l) at (has_of (map_of (rim_number ws) j))
        | inr l ↦ absurd (let z : x ≡ count ws 0 = get_or-eq_default (rim_vertices_of ws) (count ws 0) {n = v} l in omega arith)
      ])

  even-new : length (rim_edges_of ws) ≤ 4096 → (v : ℕ) → length (keep (has v) (cells_in_file (rim_file ws))) % 2 ≡ 0
  even-new few v =
      let x = get_or (rim_vertices_of ws) v (count ws 0) in
      ap (λ (cs : List (List ℕ)). length (keep (has v) cs) % 2) (rim-back ws a.flat few)
      ∙ ap (λ (n : ℕ). n % 2)
      (ap length (keep-map (has v) (λ k. map (rim_number ws) (ends_at ws k)) (rim_edges_of ws)) ∙ length-map (keep (λ k. has v (map (rim_number ws) (ends_at ws k))) (rim_edges_of ws)) _
      ∙ ap length (keep-agree (λ k. has v (map (rim_number ws) (ends_at ws k))) (λ k. has x (ends_at ws k)) (rim_edges_of ws) (λ k i. new-number k v i)))
      ∙ even-old x

  -- no two edges have the same ends
  edge_same : (x y : ℕ) → x < count ws 1 → y < count ws 1 → ends_at ws x ≡ ends_at ws y → x ≡ y
  unfolding ends_at
  edge_same x y i j e = different m ws r 1 x y (omega arith) (omega (arith, in_two m ws r a.flat)) a.flat.ends i j e

pub back_and_forth : BackAndForth
back_and_forth m ws r xs bs vs es h c i l q =
    let a = (passed ws xs bs vs es h).sheet in
    rw ((written ws xs bs vs es h).0, across-place ws a c i l q) (there_and_back m ws r a c i l q)

pub none-at-rim : NoneAtRim
none-at-rim m ws r xs bs vs es h c i l q =
    let a = (passed ws xs bs vs es h).sheet in
    let k = get_or (edges_of ws c) i 0 in
    let j : In k (edges_of ws c) = get_or-in (edges_of ws c) i 0 (rw (three-edges ws a c l) q) in
    rw ((written ws xs bs vs es h).0, across-place ws a c i l q)
    (λ e. is-rim m ws r a k (edge-below m ws r a.flat c k l j) (one_cell m ws r a c k l j e), λ e. at-rim m ws r a c k l j (rim-one m ws r a k e))

pub even-rim : EvenRim
even-rim m ws r xs bs vs es h v = even-old m ws r (passed ws xs bs vs es h).sheet v

pub even-rim-file : EvenFile
even-rim-file m ws r xs bs vs es h v =
    let a = passed ws xs bs vs es h in
    rw (bytes-written ws xs bs vs es h) (even-new m ws r a.sheet a.few v)

pub rim-accepted : RimAccepted
rim-accepted m ws r xs bs vs es h us l =
    let a = passed ws xs bs vs es h in
    rw (bytes-written ws xs bs vs es h) (accepts (rim_file ws) us (rim-loads ws a.sheet.flat a.few (edge_same m ws r a.sheet) us l))

-- what is planned is never 28 with 4
pub always-matched : AlwaysMatched
unfolding sheet_plan
always-matched m ws r acrosses bytes vertices edges c e =
    let p : List ℕ → Bool = λ (n : List ℕ). not (same n (28 ∷ 4 ∷ c ∷ [])) in
    let t : p (sheet_plan m (reached-kept m ws r).mask acrosses bytes vertices edges) ≡ true = first-all p _ (0 ∷ []) (unfold all_of same in refl) (unfold same in refl) in
    let f : p (28 ∷ 4 ∷ c ∷ []) ≡ false = ap not (same_refl (28 ∷ 4 ∷ c ∷ [])) in
    true≢false (sym t ∙ ap p (sym (sheet-planned m ws r acrosses bytes vertices edges) ∙ e) ∙ f)
