-- The relation as a whole, from what was met in it: the rows of D→0 as words of one size, and the lowest position with equal cells among them.
use mathlib.Core.Path.{◌≡◌, refl, sym, ap, ◌∙◌}
use mathlib.Core.Bool.{Bool, true, false, ◌&&◌}
use mathlib.Core.Logic.{inl, inr}
use mathlib.Core.List.{List}
use Prim.Native.Nat.{ℕ, zero, suc, ◌+◌, ◌-◌, ◌*◌, ◌/◌, ◌%◌, ◌≤◌, ◌<◌, min}
use native.Mathlib.Nat.{le_refl}
use native.Mathlib.Numerals.{add-one}
use native.Mathlib.Omega.{arith}
use lib.ListN.{length, get_or, take, drop, length-take, length-drop}
use lib.Seq.{drop-drop}
use lib.Dec.{eqb, ltb}
use denote.Ref.{Bor}
use borrow.Author.Tests.{lt-ltb, le-ltb, eq-eqb, ne_eqb}
use Rattle.rules.specs.Lists.{up_to, first_at, repeated, first_repeated}
use Rattle.rules.specs.Book.{dim, count, key, held, place, offset, total, row_of, rows_of}
use Rattle.rules.specs.Broken.{word_bad, offset_bad, index_bad, row_bad, bad_place}
use Rattle.rules.proofs.Tests.{or_right}
use Rattle.rules.proofs.Compared.{lt-or-le}
use Rattle.rules.proofs.Numbered.{rows_agree}
use Rattle.rules.proofs.Searched.{least-most, least-before, least-passes}
use Rattle.rules.proofs.Needs.{key-div, key-mod}
use Rattle.rules.proofs.AnyWords.{place-behind}
use Rattle.rules.proofs.FrameRule.{Framed, framed, room}
use Rattle.rules.proofs.BrokenFound.{rows-many, seen_first, seen_size, seen-rises, seen-total, seen-length}
use Rattle.rules.proofs.BrokenSteps.{offset-broken, offset-found, index-broken, index-found, none-broken, row_fine}
use Rattle.repeats.specs.Rows.{row_at, rows_in}
use Rattle.repeats.proofs.Parts.{front-part}
use Rattle.repeats.proofs.Among.{row_fits}
use Rattle.rows.specs.Parts.{PartOf}
use Rattle.rows.specs.Seen.{Stands, Offsets, Whole, Passed, IndexMet, Met, at_offset, at-index, nowhere, SeenIn}

-- a part that the book does not cut
pub part-whole : {book part : Bor (List ℕ)} {at n : ℕ} → PartOf book part at n → at + n ≤ length book.now → length part.now ≡ n
part-whole {book} {part} {at} {n} p l = ap length p.words ∙ simp (length-take, length-drop) (omega arith)

-- ---- the rows of D→0
module _ (ws : List ℕ) (k : ℕ) (w : Whole ws k) (top : k ≡ key (dim ws) 0) where
  abbrev f : Framed ws
  f = framed ws w.stands.framed

  abbrev h : held ws k ≡ true
  h = w.stands.holds

  -- their size, and how many they are
  abbrev size : ℕ
  size = k / 4 + 1

  abbrev n : ℕ
  n = count ws (k / 4)

  vertices : eqb (k % 4) 0 ≡ true
  vertices = eq-eqb _ _ (ap (λ (n : ℕ). n % 4) top ∙ key-mod (dim ws) 0 (omega arith))

  cells : ltb 0 k ≡ true
  cells = lt-ltb 0 k (rw top (unfold key in omega (arith, f.low)))

  own : k / 4 ≡ dim ws
  own = ap (λ (n : ℕ). n / 4) top ∙ key-div (dim ws) 0 (omega arith)

  pub top-few : n ≤ 4096
  top-few = rw own f.cells

  pub top-low : k / 4 ≤ 3
  top-low = omega (arith, own, f.high)

  pub offset-times : (i : ℕ) → i ≤ n → offset ws k i ≡ size * i
  offset-times zero l = seen_first ws f k h w.fine ∙ (omega arith)
  offset-times (suc i) l = omega (arith, offset-times i (omega arith), seen_size ws f k h w.fine vertices cells i l)

  top-length : (i : ℕ) → i < n → length (row_of ws k i) ≡ size
  top-length i l = omega (arith, seen-length ws f k h w.fine i l, seen_size ws f k h w.fine vertices cells i l)

  top-total : total ws k ≡ size * n
  unfolding total
  top-total = offset-times n (omega arith)

  pub top-room : place ws k + n + 1 + size * n ≤ length ws
  top-room = omega (arith, top-total, room ws f k h, f.fits)

  row_is : (i : ℕ) → i < n → row_at size (take (size * n) (drop (place ws k + n + 1) ws)) i ≡ row_of ws k i
  unfolding row_at row_of
  row_is i l =
      let b : offset ws k (i + 1) - offset ws k i ≡ size = omega (arith, rw (← add-one i) at (seen_size ws f k h w.fine vertices cells i l)) in
      front-part (size * i) size (size * n) (drop (place ws k + n + 1) ws) (row_fits size i n l)
      ∙ rw (drop-drop (size * i) (place ws k + n + 1) ws, b, offset-times i (omega arith))

  pub top-rows : rows_in size (take (size * n) (drop (place ws k + n + 1) ws)) n ≡ rows_of ws k
  unfolding rows_in rows_of
  top-rows = rows_agree _ (row_of ws k) n row_is

-- ---- from what was met, with the lowest row a that repeats an earlier cell, or N_d
last_off : (x y z : Bool) → (y && z) ≡ false → (x && y && z) ≡ false
last_off true y z e = e
last_off false y z e = refl

-- row i of the relation of key k repeats an earlier cell
abbrev pub again : List ℕ → ℕ → ℕ → Bool
again ws k i = eqb k (key (dim ws) 0) && repeated (rows_of ws k) i

-- an offset
pub offset-seen : (ws : List ℕ) (k r : ℕ) → r ≤ count ws (k / 4) → offset_bad ws k r ≡ true → ((q : ℕ) → q < r → offset_bad ws k q ≡ false) → SeenIn ws k r
offset-seen ws k r l b g = record {
  most = omega arith;
  broken = lt-ltb r (count ws (k / 4) + 1 + total ws k) (omega arith) ∙ sym (offset-broken ws k r l b);
  lowest = λ m. sym (offset-found ws k r l b g);
}

module _ (ws : List ℕ) (k : ℕ) (w : Whole ws k) (a : ℕ) (alone : (j : ℕ) → j < a → again ws k j ≡ false) where
  abbrev frame : Framed ws
  frame = framed ws w.stands.framed

  fine-index : (j q : ℕ) → j < a → word_bad (count ws (k % 4)) (row_of ws k j) q ≡ false → index_bad ws k j q ≡ false
  unfolding index_bad
  fine-index j q l e = rw e (last_off (eqb q 0) (eqb k (key (dim ws) 0)) (repeated (rows_of ws k) j) (alone j l))

  fine-rows : (i : ℕ) → i ≤ a → Passed ws k i → (j : ℕ) → j < i → row_bad ws k j ≡ false
  fine-rows i l passed j m = row_fine ws k j (λ q x. fine-index j q (omega arith) (passed j m q x))

  -- an index of an earlier row
  pub index-seen : (i p : ℕ) → i < a → IndexMet ws k i p → SeenIn ws k (count ws (k / 4) + 1 + offset ws k i + p)
  index-seen i p l m =
      let b : index_bad ws k i p ≡ true = unfold index_bad in rw m.bad in
      let o = seen-length ws frame k w.stands.holds w.fine i m.row in
      let t = seen-total ws frame k w.stands.holds w.fine (suc i) m.row in
      let s : count ws (k / 4) + 1 + offset ws k i + p < count ws (k / 4) + 1 + total ws k = omega (arith, m.within) in
      record {
        most = omega arith;
        broken = lt-ltb _ _ s ∙ sym (index-broken ws k w.fine i p m.row m.within b);
        lowest = λ x. sym (index-found ws k w.fine i p m.row m.within b (fine-rows i (omega arith) m.rows) (λ q y. fine-index i q l (m.before q y)));
      }

  -- that row
  pub again-seen : a < count ws (k / 4) → again ws k a ≡ true → 0 < length (row_of ws k a) → Passed ws k a → SeenIn ws k (count ws (k / 4) + 1 + offset ws k a)
  again-seen l e long passed =
      let b : index_bad ws k a 0 ≡ true = unfold index_bad in or_right (word_bad (count ws (k % 4)) (row_of ws k a) 0) _ e in
      let o = seen-length ws frame k w.stands.holds w.fine a l in
      let t = seen-total ws frame k w.stands.holds w.fine (suc a) l in
      let s : count ws (k / 4) + 1 + offset ws k a < count ws (k / 4) + 1 + total ws k = omega arith in
      let z : bad_place ws k ≡ count ws (k / 4) + 1 + offset ws k a + 0 = index-found ws k w.fine a 0 l long b (fine-rows a (omega arith) passed) (λ q y. absurd (omega arith)) in
      record {
        most = omega arith;
        broken = lt-ltb _ _ s ∙ sym (index-broken ws k w.fine a 0 l long b);
        lowest = λ x. omega (arith, z);
      }

  -- neither
  pub none_seen : a ≡ count ws (k / 4) → Passed ws k (count ws (k / 4)) → SeenIn ws k (count ws (k / 4) + 1 + total ws k)
  none_seen e passed = record {
    most = omega arith;
    broken = le-ltb (count ws (k / 4) + 1 + total ws k) (count ws (k / 4) + 1 + total ws k) (le_refl _) ∙ sym (none-broken ws k w.fine (fine-rows (count ws (k / 4)) (omega arith) passed));
    lowest = λ x. absurd (omega arith);
  }

-- what was met at an offset, and behind all of them
pub early-seen : (ws : List ℕ) (k r : ℕ) → r ≤ count ws (k / 4) → Met ws k r → SeenIn ws k r
early-seen ws k r l (at_offset m b g) = offset-seen ws k r m b g
early-seen ws k r l (at-index i p m e) = absurd (omega arith)
early-seen ws k r l (nowhere g passed e) = absurd (omega arith)

pub late-fine : (ws : List ℕ) (k r : ℕ) → count ws (k / 4) < r → Met ws k r → Offsets ws k
late-fine ws k r l (at_offset m b g) = absurd (omega arith)
late-fine ws k r l (at-index i p m e) = m.fine
late-fine ws k r l (nowhere g passed e) = g

-- another relation than D→0 has no cells
module _ (ws : List ℕ) (k : ℕ) (s : Stands ws k) (other : k ≡ key (dim ws) 0 → ⊥) where
  not-again : (j : ℕ) → again ws k j ≡ false
  not-again j = rw (ne_eqb k (key (dim ws) 0) other)

  pub other-seen : (r : ℕ) → Met ws k r → SeenIn ws k r
  other-seen r (at_offset l b g) = offset-seen ws k r l b g
  other-seen r (at-index i p m e) = rw e (index-seen ws k (record { stands = s; fine = m.fine }) (suc i) (λ j l. not-again j) i p (omega arith) m)
  other-seen r (nowhere g passed e) = rw e (none_seen ws k (record { stands = s; fine = g }) (count ws (k / 4)) (λ j l. not-again j) refl passed)

-- D→0, where no offset is bad: the lowest of what was met and the first index of the row that repeats an earlier one
module _ (ws : List ℕ) (k : ℕ) (s : Stands ws k) (top : k ≡ key (dim ws) 0) where
  -- that row, or N_D
  abbrev first : ℕ
  first = first_repeated (rows_of ws k)

  first-is : first ≡ first_at (repeated (rows_of ws k)) (up_to (count ws (k / 4)))
  unfolding first_repeated
  first-is = rw (rows-many ws k)

  first_alone : (j : ℕ) → j < first → again ws k j ≡ false
  first_alone j l = last_off true (eqb k (key (dim ws) 0)) (repeated (rows_of ws k) j) (rw (eq-eqb k (key (dim ws) 0) top) (least-before (repeated (rows_of ws k)) (count ws (k / 4)) j (omega (arith, first-is))))

  first-again : first < count ws (k / 4) → again ws k first ≡ true
  first-again l = rw (eq-eqb k (key (dim ws) 0) top) (rw (sym first-is) at (least-passes (repeated (rows_of ws k)) (count ws (k / 4)) (omega (arith, first-is))))

  pub first-most : first ≤ count ws (k / 4)
  first-most = omega (arith, first-is, least-most (repeated (rows_of ws k)) (count ws (k / 4)))

  module _ (g : Offsets ws k) where
    abbrev w : Whole ws k
    w = record { stands = s; fine = g }

    first-place : count ws (k / 4) + 1 + (k / 4 + 1) * first ≡ count ws (k / 4) + 1 + offset ws k first
    first-place = ap (λ (x : ℕ). count ws (k / 4) + 1 + x) (sym (offset-times ws k w top first first-most))

    first-seen : first < count ws (k / 4) → Passed ws k first → SeenIn ws k (count ws (k / 4) + 1 + offset ws k first)
    first-seen l passed = again-seen ws k w first first_alone l (first-again l) (omega (arith, top-length ws k w top first l)) passed

  last-offset : first ≡ count ws (k / 4) → offset ws k first ≡ total ws k
  unfolding total
  last-offset q = ap (offset ws k) q

  rises : (g : Offsets ws k) (p q : ℕ) → p ≤ q → q ≤ count ws (k / 4) → offset ws k p ≤ offset ws k q
  rises g = seen-rises ws (framed ws s.framed) k s.holds g

  pub cells-seen : (r : ℕ) → count ws (k / 4) < r → Met ws k r → SeenIn ws k (min r (count ws (k / 4) + 1 + (k / 4 + 1) * first))
  cells-seen r l (at_offset m b g) = absurd (omega arith)
  cells-seen r l (at-index i p m e) = elim (lt-or-le i first) [
    | inl x ↦
        let o = rises m.fine (suc i) first x first-most in
        let q = seen-length ws (framed ws s.framed) k s.holds m.fine i m.row in
        let z : min r (count ws (k / 4) + 1 + (k / 4 + 1) * first) ≡ count ws (k / 4) + 1 + offset ws k i + p = omega (arith, first-place m.fine, m.within) in
        rw z (index-seen ws k (w m.fine) first first_alone i p x m)
    | inr x ↦
        let o = rises m.fine first i x (omega (arith, m.row)) in
        let z : min r (count ws (k / 4) + 1 + (k / 4 + 1) * first) ≡ count ws (k / 4) + 1 + offset ws k first = omega (arith, first-place m.fine) in
        rw z (first-seen m.fine (omega (arith, m.row)) (λ j y. m.rows j (omega arith)))
  ]
  cells-seen r l (nowhere g passed e) = elim (lt-or-le first (count ws (k / 4))) [
    | inl x ↦
        let o = seen-total ws (framed ws s.framed) k s.holds g first first-most in
        let z : min r (count ws (k / 4) + 1 + (k / 4 + 1) * first) ≡ count ws (k / 4) + 1 + offset ws k first = omega (arith, first-place g) in
        rw z (first-seen g x (λ j y. passed j (omega arith)))
    | inr x ↦
        let q : first ≡ count ws (k / 4) = omega (arith, first-most) in
        let t = last-offset q in
        let z : min r (count ws (k / 4) + 1 + (k / 4 + 1) * first) ≡ count ws (k / 4) + 1 + total ws k = omega (arith, first-place g) in
        rw z (none_seen ws k (w g) first first_alone q passed)
  ]

-- ---- the relation's length leads to the next
pub relation-ends : (ws : List ℕ) (k : ℕ) → held ws k ≡ true → place ws k + (count ws (k / 4) + 1 + total ws k) ≡ place ws (k + 1)
unfolding total offset
relation-ends ws k h = omega (arith, place-behind ws k (place ws k) refl (count ws (k / 4)) (get_or ws (place ws k + count ws (k / 4)) 0) h refl refl)
