-- The rows of 2→0 stand behind its offsets, three vertices each.
use mathlib.Core.Path.{◌≡◌, refl, sym, ap, subst, ◌∙◌}
use mathlib.Core.List.{List, map}
use Prim.Native.Nat.{ℕ, ◌+◌, ◌*◌, ◌≤◌}
use native.Mathlib.Omega.{arith}
use lib.ListN.{length}
use lib.Dec.{lit<}
use Rattle.rules.specs.Lists.{up_to}
use Rattle.rules.specs.Book.{key, place}
use Rattle.rules.specs.Closures.{face_closure}
use Rattle.closures.specs.Rows.{triple_at, Rowed}
use Rattle.closing.specs.Ready.{Ready}
use Rattle.closing.proofs.Parts.{fits, part_at, rowed, closures-part}
use Rattle.closing.proofs.fill_closures.Goals.{After-place_of}
use Rattle.closing.proofs.fill_closures.Goals as goal

-- 2→0 is found where it begins, and its rows lie within the book
module _ (c : After-place_of) where
  ready : Ready c.args.book.now 8 c.args.counts.now (length c.args.out.now)
  unfolding key
  ready = c.requires

  place_is : c.place_of.result.0 ≡ place c.args.book.now 8
  unfolding key
  place_is = c.place_of.ensures ∙ ap (place c.args.book.now) c.key.ensures

  inside : c.place_of.result.0 + length c.args.out.now + 1 + 3 * length c.args.out.now ≤ length c.args.book.now
  inside = omega (arith, place_is, fits c.args.book.now 8 c.args.counts.now (length c.args.out.now) ready refl (lit< tt))

pub overflow_add-at : goal.overflow_add-at
overflow_add-at c = omega (arith, inside (goal.at.overflow_add-at c).After-place_of, c.well_formed)

pub overflow_add-at-2 : goal.overflow_add-at-2
overflow_add-at-2 c = omega (arith, inside (goal.at.overflow_add-at-2 c).After-place_of, c.well_formed)

pub overflow_add-end : goal.overflow_add-end
overflow_add-end c = omega (arith, inside (goal.at.overflow_add-end c).After-place_of, c.well_formed)

pub offset_bounds-book-at : goal.offset_bounds-book-at
offset_bounds-book-at c = omega (arith, inside (goal.at.offset_bounds-book-at c).After-place_of, c.well_formed)

pub slice_bounds-write_closures-end : goal.slice_bounds-write_closures-end
slice_bounds-write_closures-end c = omega (arith, inside (goal.at.slice_bounds-write_closures-end c).After-place_of)

pub write_closures-requires : goal.write_closures-requires
write_closures-requires c =
    let at = (goal.at.write_closures-requires c).After-place_of in
    let ws = c.args.book.now in
    let counts = c.args.counts.now in
    let n = length c.args.out.now in
    subst (λ (l : List ℕ). Rowed 3 n l counts) (sym (part_at ws 8 counts n (ready at) refl (lit< tt) c.place_of.result.0 (place_is at))) (rowed ws 8 counts n (ready at) refl (lit< tt))

pub returns : goal.returns
returns c =
    let at = (goal.at.returns c).After-place_of in
    let ws = c.args.book.now in
    let counts = c.args.counts.now in
    let n = length c.args.out.now in
    let cut = part_at ws 8 counts n (ready at) refl (lit< tt) c.place_of.result.0 (place_is at) in
    c.write_closures.ensures ∙ ap (λ (l : List ℕ). map (λ i. face_closure counts (triple_at l i)) (up_to n)) cut ∙ sym (closures-part ws counts n (ready at))
