-- Demand 3, part by part, read off the one true book.
use mathlib.Core.Path.{◌≡◌, refl, sym, ap, ◌∙◌}
use mathlib.Core.Bool.{Bool, true, false, cond, false≢true}
use mathlib.Core.List.{List, []}
use Prim.Native.Nat.{ℕ, ◌≤◌, ◌<◌}
use native.Mathlib.Omega.{arith}
use lib.ListN.{length}
use lib.Dec.{eqb}
use borrow.Author.Tests.{eqb-true}
use Rattle.rules.specs.Lists.{any_of, has}
use Rattle.rules.specs.Book.{count, key, named, held, row_of, rows_of}
use Rattle.rules.specs.Calls.{row_number}
use Rattle.rules.specs.Truth.{Mesh, number, true_row, true_rows, true_book}
use Rattle.promises.specs.Demand.{HeldTrue, Different, InSomeCell, BothWays, Valid, GivenOut, FoundTrue, Determined, Alike, NothingElse}
use Rattle.rules.proofs.Needs.{key-div, key-mod}
use Rattle.rules.proofs.Accepted.{rowed, row_is, finds}
use Rattle.rules.proofs.Found.{find-has}
use Rattle.rules.proofs.TrueRows.{has-incident}
use Rattle.rules.proofs.TrueFacts.{rows-both-ways, rows-valid, rows-different, rows-in-cell}
use Rattle.rules.proofs.TrueBook.{book-rows, book-row, count-first, count-second}
use Rattle.rules.proofs.Faultless.{faultless}
use Rattle.promises.proofs.Kept.{Kept, kept-held, kept-dim, kept-mask, kept-masks, reached-kept, kept-right, kept-alike}

-- a relation d→e held in a kept book: its counts and rows are the mesh's
module _ (m : Mesh) (ws : List ℕ) (k : Kept m ws) (d e : ℕ) (l : e ≤ m.dims) (h : held ws (key d e) ≡ true) where
  four : e < 4
  four = omega (arith, k.formed.high)

  is-named : named k.mask (key d e) ≡ true
  is-named = sym (kept-held m ws k (key d e)) ∙ h

  pub first_count : count ws d ≡ number m d
  first_count = ap (λ (w : List ℕ). count w d) k.words ∙ count-first m k.formed k.mask k.proper d e four is-named (length ws)

  pub second-count : count ws e ≡ number m e
  second-count = ap (λ (w : List ℕ). count w e) k.words ∙ count-second m k.formed k.mask k.proper d e four is-named (length ws)

  pub row-true : (i : ℕ) → i < number m d → row_of ws (key d e) i ≡ true_row m d e i
  row-true i x = ap (λ (w : List ℕ). row_of w (key d e) i) k.words ∙ book-row m k.formed k.mask k.proper d e four is-named (length ws) i x

  pub rows_true : rows_of ws (key d e) ≡ true_rows m d e
  rows_true =
      ap (λ (w : List ℕ). rows_of w (key d e)) k.words
      ∙ book-rows m k.formed k.mask k.proper (length ws) (key d e) is-named ∙ rw (key-div d e four, key-mod d e four)

  index-valid : (i j : ℕ) → i < count ws d → has j (row_of ws (key d e) i) ≡ true → (j < count ws e) × (count ws e ≡ number m e)
  index-valid i j a t =
      let x : i < number m d = rw first_count at a in
      (rw second-count (rows-valid m d e i j (sym (ap (has j) (row-true i x)) ∙ t)), second-count)

-- ---- the parts
pub held-true : HeldTrue
held-true m ws r j h =
    let k = reached-kept m ws r in
    ap (λ (w : List ℕ). rows_of w j) k.words ∙ book-rows m k.formed k.mask k.proper (length ws) j (sym (kept-held m ws k j) ∙ h)

pub different : Different
different m ws r d i j p l h a b e =
    let k = reached-kept m ws r in
    let c = first_count m ws k d 0 (omega arith) h in
    let x : i < number m d = rw c at a in
    let y : j < number m d = rw c at b in
    rows-different m k.formed d p l i j x y (sym (row-true m ws k d 0 (omega arith) h i x) ∙ e ∙ row-true m ws k d 0 (omega arith) h j y)

pub in-some-cell : InSomeCell
in-some-cell m ws r d i p l h a =
    let k = reached-kept m ws r in
    let x : i < number m d = rw (first_count m ws k d 0 (omega arith) h) at a in
    rw (row-true m ws k d 0 (omega arith) h i x) (rows-in-cell m k.formed d p l i x)

pub both_ways : BothWays
both_ways m ws r d e i j ld le h g a b =
    let k = reached-kept m ws r in
    let x : i < number m d = rw (first_count m ws k d e le h) at a in
    let y : j < number m e = rw (second-count m ws k d e le h) at b in
    rw (row-true m ws k d e le h i x, row-true m ws k e d ld g j y) (rows-both-ways m d e i j x y)

pub valid : Valid
valid m ws r d e i j ld le h a t = index-valid m ws (reached-kept m ws r) d e le h i j a t

pub given_out : GivenOut
given_out m ws r d e i j t = go (eqb (row_number ws d e i) 0) refl (rw (row_is ws d e i) at t)
  where
    k : Kept m ws
    k = reached-kept m ws r

    none : has j [] ≡ true → ⊥
    none q = unfold has any_of in false≢true q

    go : (b : Bool) → eqb (row_number ws d e i) 0 ≡ b → has j (cond b (row_of ws (key d e) i) []) ≡ true → (j < count ws e) × (count ws e ≡ number m e)
    go true q u =
        let a = rowed ws d e i (eqb-true _ _ q) in
        index-valid m ws k d e (rw (kept-dim m ws k) at a.second) a.there i j a.below u
    go false q u = absurd (none u)

pub found-true : FoundTrue
found-true m ws r d e i j z =
    let k = reached-kept m ws r in
    let g = kept-right m ws k in
    let (z₀, w) = finds ws d e i j z in
    let a = rowed ws d e i z₀ in
    let l : e ≤ m.dims = rw (kept-dim m ws k) at a.second in
    let x : i < number m d = rw (first_count m ws k d e l a.there) at a.below in
    let y : j < number m e = rw (second-count m ws k d e l a.there) at w in
    find-has ws g.frame g.rows d e i j z ∙ ap (has j) (row-true m ws k d e l a.there i x) ∙ has-incident m d e i j y

pub determined : Determined
determined m ws r =
    let k = reached-kept m ws r in
    k.words ∙ ap (true_book (length ws) m) (sym (kept-mask m ws k))

pub alike : Alike
alike m ws vs r s l h =
    let a = reached-kept m ws r in
    let b = reached-kept m vs s in
    a.words ∙ rw (l, kept-masks m m ws vs a b h) (sym b.words)

pub nothing-else : NothingElse
nothing-else m ws r =
    let k = reached-kept m ws r in
    let g = kept-right m ws k in
    (g.frame, g.rows, λ d e i j bs counts closures steps bytes coordinates axes acrosses rim vertices edges. faultless ws g.frame g.rows (kept-alike m ws k) d e i j bs counts closures steps bytes coordinates axes acrosses rim vertices edges)
