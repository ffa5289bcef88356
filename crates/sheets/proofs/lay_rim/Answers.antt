-- What is gathered of the rim is what the definitions say of it; each test leaves its answer, and what is written then is the sheet's.
use mathlib.Core.Path.{◌≡◌, refl, sym, ap, ap₂, ◌∙◌}
use mathlib.Core.List.{List, [], ◌++◌, map}
use Prim.Native.Nat.{ℕ, ◌+◌, ◌*◌, ◌^◌, ◌≤◌}
use native.Mathlib.Omega.{arith}
use lib.ListN.{length, take, drop}
use lib.Dec.{eqb}
use Rattle.rules.specs.Lists.{up_to, keep, first_at, has, joined}
use Rattle.rules.specs.File.{head_length, put_file}
use Rattle.rules.specs.Book.{count}
use Rattle.rules.specs.Truth.{first_word}
use Rattle.rules.specs.Sheet.{ends_at, rim_edges_of, rim_vertices_of, rim_mesh, rim_file, rim_length_of, Flat}
use Rattle.rules.proofs.FrameRule.{framed}
use Rattle.rules.proofs.Rim.{rim-up, few-vertices}
use Rattle.rules.proofs.SheetAccepted.{across-length}
use Rattle.sheets.proofs.Looked.{triple}
use Rattle.sheets.proofs.Gathered.{all_ends, edges-low, ends_low, vertices-low, ends-listed, named-are, head-is, length-is, file-is}
use Rattle.sheets.proofs.Answered.{eighteen, across-off, vertices-short, edges-short, accepted, refused, no_place, given}
use Rattle.sheets.proofs.lay_rim.Goals.{After-count-2}
use Rattle.sheets.proofs.lay_rim.Goals as goal

-- the ends that were put
module _ (edges ends : List ℕ) where
  ends-are : (ws : List ℕ) (f : Flat ws) → edges ≡ rim_edges_of ws → take (2 * length edges) ends ≡ joined (map (ends_at ws) edges) → take (2 * length edges) ends ≡ all_ends ws f
  ends-are ws f e p = p ∙ ap (λ (ks : List ℕ). joined (map (ends_at ws) ks)) e

-- the edges, the vertices that were listed, the head and the length
module _ (c : After-count-2) where
  abbrev ws : List ℕ
  ws = c.args.book.now

  flat : Flat ws
  flat = c.requires.sheet.flat

  many-edges : length c.args.edges.now ≡ length (rim_edges_of ws)
  many-edges = ap length c.requires.rim

  few : length (rim_edges_of ws) ≤ 4096
  few = omega (arith, many-edges, c.requires.few)

  listed-are : keep (λ v. has v (take (2 * length c.args.edges.now) c.put_ends.new.out)) (up_to c.count.result) ≡ rim_vertices_of ws
  listed-are =
      ap₂ (λ (es : List ℕ) (n : ℕ). keep (λ v. has v es) (up_to n)) (ends-are c.args.edges.now c.put_ends.new.out ws flat c.requires.rim (rw c.of-triangles.ensures at c.put_ends.ensures)) c.count.ensures
      ∙ named-are ws flat

  many-vertices : c.list_named-v.result ≡ length (rim_vertices_of ws)
  many-vertices = c.list_named-v.ensures.many ∙ ap length listed-are

  vertices-are : take c.list_named-v.result c.list_named-v.new.list ≡ rim_vertices_of ws
  vertices-are = c.list_named-v.ensures.these ∙ listed-are

  vertices-taken : c.list_named-v.result ≡ length (take c.list_named-v.result c.list_named-v.new.list)
  vertices-taken = many-vertices ∙ ap length (sym vertices-are)

  head_at : c.head_of-head.result.0 ≡ first_word (rim_mesh ws)
  head_at = c.head_of-head.ensures ∙ ap₂ (λ (v n : ℕ). 2 ^ 30 * 1 + 2 ^ 16 * v + 2 ^ 3 * n) many-vertices many-edges ∙ head-is ws flat

  length_at : c.length-length.result ≡ rim_length_of ws
  length_at = c.length-length.ensures ∙ ap head_length head_at ∙ length-is ws flat few

pub put_ends-requires-clause-low : goal.put_ends-requires-clause-low
put_ends-requires-clause-low c = rw (c.of-triangles.ensures, c.requires.rim) (edges-low c.args.book.now c.requires.sheet.flat)

pub list_named-v-requires : goal.list_named-v-requires
list_named-v-requires c =
    let f = c.requires.sheet.flat in
    let e = ends-are c.args.edges.now c.put_ends.new.out c.args.book.now f c.requires.rim (rw c.of-triangles.ensures at c.put_ends.ensures) in
    record { low = rw e (ends_low c.args.book.now f); few = omega (arith, c.count.ensures, (framed c.args.book.now f.frame).vertices) }

pub returns-then-buffer_short : goal.returns-then-buffer_short
returns-then-buffer_short c =
    let p = (goal.at.returns-then-buffer_short c).After-count-2 in
    let h = eighteen c.args.book.now (length c.args.across.now) (length c.args.rim.now) (length c.args.rim_vertices.now) (length c.args.rim_edges.now) c.requires.sheet (few p) (rw (length_at p) at c.if-buffer_short.true) in
    refused c.args.book.now c.args.across.now c.args.rim.now c.args.rim_vertices.now c.args.rim_edges.now 18 [] h refl refl

pub returns-then-across_off : goal.returns-then-across_off
returns-then-across_off c =
    let p = (goal.at.returns-then-across_off c).After-count-2 in
    let h = across-off c.args.book.now (length c.args.across.now) (length c.args.rim.now) (length c.args.rim_vertices.now) (length c.args.rim_edges.now) c.requires.sheet (few p) (rw (length_at p) at c.if-buffer_short.false) (λ e. c.if-across_off.true (e ∙ ap (λ (n : ℕ). 3 * n) (sym c.count-2.ensures))) in
    refused c.args.book.now c.args.across.now c.args.rim.now c.args.rim_vertices.now c.args.rim_edges.now 21 [] h refl refl

pub returns-then-vertices_short : goal.returns-then-vertices_short
returns-then-vertices_short c =
    let p = (goal.at.returns-then-vertices_short c).After-count-2 in
    let h = vertices-short c.args.book.now (length c.args.across.now) (length c.args.rim.now) (length c.args.rim_vertices.now) (length c.args.rim_edges.now) c.requires.sheet (few p) (rw (length_at p) at c.if-buffer_short.false) (c.if-across_off.false ∙ ap (λ (n : ℕ). 3 * n) c.count-2.ensures) (rw (many-vertices p) at c.if-vertices_short.true) in
    refused c.args.book.now c.args.across.now c.args.rim.now c.args.rim_vertices.now c.args.rim_edges.now 21 [] h refl refl

pub returns-then-edges_short : goal.returns-then-edges_short
returns-then-edges_short c =
    let p = (goal.at.returns-then-edges_short c).After-count-2 in
    let h = edges-short c.args.book.now (length c.args.across.now) (length c.args.rim.now) (length c.args.rim_vertices.now) (length c.args.rim_edges.now) c.requires.sheet (few p) (rw (length_at p) at c.if-buffer_short.false) (c.if-across_off.false ∙ ap (λ (n : ℕ). 3 * n) c.count-2.ensures) (rw (many-vertices p) at c.if-vertices_short.false) (rw (many-edges p) at c.if-edges_short.true) in
    refused c.args.book.now c.args.across.now c.args.rim.now c.args.rim_vertices.now c.args.rim_edges.now 21 [] h refl refl

pub put_rim-requires : goal.put_rim-requires
put_rim-requires c =
    let p = (goal.at.put_rim-requires c).After-count-2 in
    let f = c.requires.sheet.flat in
    let v = vertices-are p in
    let e = ends-are c.args.edges.now c.put_ends.new.out c.args.book.now f c.requires.rim (rw c.of-triangles.ensures at c.put_ends.ensures) in
    record {
      ascending = rw v (rim-up c.args.book.now);
      low = rw v (vertices-low c.args.book.now f);
      few = rw v (few-vertices c.args.book.now f);
      listed = rw (v, e) (ends-listed c.args.book.now f);
    }

-- the file that is written
file-at : (ws bs : List ℕ) (f : Flat ws) → length (rim_edges_of ws) ≤ 4096 → rim_length_of ws ≤ length bs → (h : ℕ) (vs es : List ℕ) → h ≡ first_word (rim_mesh ws) → vs ≡ rim_vertices_of ws → es ≡ all_ends ws f
    → put_file h (map (λ v. first_at (eqb v) vs) es) bs ≡ rim_file ws ++ drop (rim_length_of ws) bs
file-at ws bs f few l h vs es e p q = rw (e, p, q) (file-is ws f few bs l)

pub returns : goal.returns
returns c =
    let p = (goal.at.returns c).After-count-2 in
    let f = c.requires.sheet.flat in
    let ends = ends-are c.args.edges.now c.put_ends.new.out c.args.book.now f c.requires.rim (rw c.of-triangles.ensures at c.put_ends.ensures) in
    let room : rim_length_of c.args.book.now ≤ length c.args.rim.now = rw (length_at p) at c.if-buffer_short.false in
    let places : length c.args.across.now ≡ 3 * count c.args.book.now 2 = c.if-across_off.false ∙ ap (λ (n : ℕ). 3 * n) c.count-2.ensures in
    let h = accepted c.args.book.now (length c.args.across.now) (length c.args.rim.now) (length c.args.rim_vertices.now) (length c.args.rim_edges.now) c.requires.sheet (few p) room places (rw (many-vertices p) at c.if-vertices_short.false) (rw (many-edges p) at c.if-edges_short.false) in
    let g = given c.args.book.now c.args.across.now c.args.rim.now c.args.rim_vertices.now c.args.rim_edges.now h (places ∙ sym (across-length c.args.book.now c.requires.sheet)) in
    record {
      answer = h;
      place = no_place c.args.book.now c.args.across.now c.args.rim.now c.args.rim_vertices.now c.args.rim_edges.now 0 [] h refl;
      given = triple (length_at p) (many-vertices p) (many-edges p) ∙ g.given;
      across = (rw c.of-triangles.ensures at c.fill_across.ensures) ∙ g.across;
      bytes = c.put_rim.ensures ∙ file-at c.args.book.now c.args.rim.now f (few p) room _ _ _ (head_at p) (vertices-are p) ends ∙ g.bytes;
      vertices = ap₂ (λ (w : List ℕ) (n : ℕ). w ++ drop n c.args.rim_vertices.now) c.copy_from_slice.ensures.after (vertices-taken p) ∙ ap (λ (w : List ℕ). w ++ drop (length w) c.args.rim_vertices.now) (vertices-are p) ∙ g.vertices;
      edges = ap (λ (w : List ℕ). w ++ drop (length c.args.edges.now) c.args.rim_edges.now) c.copy_from_slice-2.ensures.after ∙ ap (λ (w : List ℕ). w ++ drop (length w) c.args.rim_edges.now) c.requires.rim ∙ g.edges;
    }
