-- Each answer comes with the tests that were passed before it, and 11 with the place that was found.
use mathlib.Core.Path.{◌≡◌, refl, sym, ap, ◌∙◌}
use mathlib.Core.Bool.{true, ◌&&◌}
use mathlib.Core.List.{List, [], ◌∷◌}
use Prim.Native.Nat.{ℕ}
use native.Mathlib.Omega.{arith}
use lib.ListN.{length, get_or, drop}
use Rattle.rules.specs.Book.{dim, key, held, frame_right, rows_right, Right}
use Rattle.rules.specs.Broken.{broken_at, told}
use Rattle.rules.specs.Sheet.{Flat, sheet_answer}
use Rattle.right.specs.Checks.{right_number}
use borrow.Author.Tests.{ne_eqb}
use Rattle.rules.proofs.Tests.{left, right}
use Rattle.book.proofs.Flags.{off, on}
use Rattle.kinds.specs.declared.refusals.NotSheet.{NotSheet}
use Rattle.kinds.specs.declared.refusals.NotSheet.TheVariants as whys
use Rattle.kinds.specs.declared.refusals.Refusal.TheVariants as refusals
use Rattle.kinds.specs.Refusals.{why_answer, answer_why, answer_place, given}
use Rattle.kinds.proofs.Determined.{handed-on, refused-accepted}
use Rattle.right.proofs.Checks.{without-reason, either}
use Rattle.sheets.specs.Answers.{by_entities, rim_given}
use Rattle.sheets.proofs.Answered.{ten, eleven, other-dimension, fifteen, by-entities, is-sheet, number_is, left_alone, refused}
use Rattle.sheets.proofs.sheet.Goals.{After-dim, After-needs_held, After-tested}
use Rattle.sheets.proofs.sheet.Goals as goal

-- why a book is not a sheet comes with 28
why-number : (w : NotSheet) → why_answer w ≡ 28 ∷ drop 1 (why_answer w)
why-number whys.Dimension = refl
why-number (whys.Vertex v) = refl
why-number (whys.Edge k) = refl
why-number (whys.Cell c) = refl

not-zero : (xs : List ℕ) → 28 ∷ xs ≡ 0 ∷ [] → ⊥
not-zero xs q = let e : ◌≡◌ {A = ℕ} 28 0 = ap (λ (l : List ℕ). get_or l 0 0) q in omega arith

-- a right book with D = 2 that holds what is needed
flat-of : (ws : List ℕ) → frame_right ws ≡ true → rows_right ws ≡ true → dim ws ≡ 2 → (held ws (key 1 0) && held ws (key 2 1) && held ws (key 1 2)) ≡ true → Flat ws
flat-of ws framed rowed two h =
    let g = left (held ws (key 1 0) && held ws (key 2 1)) (held ws (key 1 2)) h in
    record {
      frame = framed;
      rows = rowed;
      two = two;
      ends = left (held ws (key 1 0)) (held ws (key 2 1)) g;
      edges = right (held ws (key 1 0)) (held ws (key 2 1)) g;
      cells = right (held ws (key 1 0) && held ws (key 2 1)) (held ws (key 1 2)) h;
    }

right-book : (c : After-dim) → Right c.args.book.now
right-book c = rw c.in_ok-right.ensures.words at c.in_ok-right.ensures.right

two : (c : After-needs_held) → dim c.args.book.now ≡ 2
two c = sym (ap dim c.in_ok-right.ensures.words) ∙ sym c.dim.ensures.dim ∙ c.if-dim-ne2.false

held-is : (c : After-needs_held) → c.needs_held.result ≡ (held c.args.book.now (key 1 0) && held c.args.book.now (key 2 1) && held c.args.book.now (key 1 2))
held-is c = rw c.in_ok-right.ensures.words at c.needs_held.ensures

flat : (c : After-tested) → Flat c.args.book.now
flat c =
    let r : Right c.args.book.now = rw c.in_ok-right.ensures.words at c.in_ok-right.ensures.right in
    flat-of c.args.book.now r.frame r.rows (sym (ap dim c.in_ok-right.ensures.words) ∙ sym c.dim.ensures.dim ∙ c.if-dim-ne2.false) (on (rw c.in_ok-right.ensures.words at c.needs_held.ensures) c.if-not-needs_held.false)

pub returns-in_err-right : goal.returns-in_err-right
returns-in_err-right c =
    let ws = c.args.book.now in
    let h = handed-on c.from_residual.result c.in_err-right.field-0.0 c.from_residual.ensures.1 in
    let n = c.in_err-right.ensures.number in
    let z : right_number ws ≡ 0 → ⊥ = λ e. refused-accepted _ (n ∙ e) in
    let said = sheet_answer ws (length c.args.across.now) (length c.args.rim.now) (length c.args.rim_vertices.now) (length c.args.rim_edges.now) in
    let a : right_number ws ∷ [] ≡ said = either ws (λ k. k ∷ [] ≡ said) z (ten ws _ _ _ _) (eleven ws _ _ _ _) in
    let r = left_alone c.args.book.now c.args.across.now c.args.rim.now c.args.rim_vertices.now c.args.rim_edges.now (right_number ws) [] a (ne_eqb _ 0 z) in
    record {
      answer = ap answer_why h ∙ without-reason ws _ n ∙ a;
      place = ap answer_place h ∙ c.in_err-right.ensures.place ∙ ap (λ (k : ℕ). told k (broken_at ws)) (sym (number_is c.args.book.now c.args.across.now c.args.rim.now c.args.rim_vertices.now c.args.rim_edges.now (right_number ws) [] a));
      given = ap (given [] rim_given) h ∙ r.given;
      across = r.across;
      bytes = r.bytes;
      vertices = r.vertices;
      edges = r.edges;
    }

pub returns-then-dim-ne2 : goal.returns-then-dim-ne2
returns-then-dim-ne2 c =
    let r = right-book (goal.at.returns-then-dim-ne2 c).After-dim in
    let h = other-dimension c.args.book.now (length c.args.across.now) (length c.args.rim.now) (length c.args.rim_vertices.now) (length c.args.rim_edges.now) r.frame r.rows (λ e. c.if-dim-ne2.true (c.dim.ensures.dim ∙ ap dim c.in_ok-right.ensures.words ∙ e)) in
    refused c.args.book.now c.args.across.now c.args.rim.now c.args.rim_vertices.now c.args.rim_edges.now 28 (1 ∷ []) h refl refl

pub returns-then-not-needs_held : goal.returns-then-not-needs_held
returns-then-not-needs_held c =
    let at = goal.at.returns-then-not-needs_held c in
    let b = right-book at.After-dim in
    let h = fifteen c.args.book.now (length c.args.across.now) (length c.args.rim.now) (length c.args.rim_vertices.now) (length c.args.rim_edges.now) b.frame b.rows (two at.After-needs_held) (off (held-is at.After-needs_held) c.if-not-needs_held.true) in
    refused c.args.book.now c.args.across.now c.args.rim.now c.args.rim_vertices.now c.args.rim_edges.now 15 [] h refl refl

pub lay-requires : goal.lay-requires
lay-requires c = rw c.in_ok-right.ensures.words (is-sheet c.args.book.now (flat (goal.at.lay-requires c).After-tested) (rw c.in_ok-right.ensures.words at c.in_ok-tested.ensures))

pub returns-in_err-tested : goal.returns-in_err-tested
returns-in_err-tested c =
    let w = c.in_err-tested.field-0.0 in
    let h = handed-on c.from_residual-in_err-tested.result (refusals.NotSheet w) c.from_residual-in_err-tested.ensures.1 in
    let e : why_answer w ≡ by_entities c.args.book.now = rw c.in_ok-right.ensures.words at c.in_err-tested.ensures in
    let a = by-entities c.args.book.now (length c.args.across.now) (length c.args.rim.now) (length c.args.rim_vertices.now) (length c.args.rim_edges.now) (flat (goal.at.returns-in_err-tested c).After-tested) (why_answer w) e (λ q. not-zero (drop 1 (why_answer w)) (sym (why-number w) ∙ q)) in
    let k = sym (why-number w) ∙ a in
    let r = refused c.args.book.now c.args.across.now c.args.rim.now c.args.rim_vertices.now c.args.rim_edges.now 28 (drop 1 (why_answer w)) k refl refl in
    record {
      answer = ap answer_why h ∙ a;
      place = ap answer_place h ∙ r.place;
      given = ap (given [] rim_given) h ∙ r.given;
      across = r.across;
      bytes = r.bytes;
      vertices = r.vertices;
      edges = r.edges;
    }
