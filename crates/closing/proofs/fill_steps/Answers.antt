-- The rows of 1→0 stand behind its offsets, two vertices each.
use mathlib.Core.Path.{◌≡◌, refl, sym, ap, subst, ◌∙◌}
use mathlib.Core.List.{List, map}
use Prim.Native.Nat.{ℕ, ◌+◌, ◌*◌, ◌≤◌}
use native.Mathlib.Omega.{arith}
use lib.ListN.{length}
use lib.Dec.{lit<}
use Rattle.rules.specs.Lists.{up_to}
use Rattle.rules.specs.Book.{key, place}
use Rattle.rules.specs.Closures.{edge_step, edge_byte}
use Rattle.closures.specs.Rows.{pair_at, Rowed}
use Rattle.closing.specs.Ready.{Ready}
use Rattle.closing.proofs.Parts.{fits, part_at, rowed, steps-part, bytes-part}
use Rattle.closing.proofs.fill_steps.Goals.{After-place_of}
use Rattle.closing.proofs.fill_steps.Goals as goal

-- 1→0 is found where it begins, and its rows lie within the book
module _ (c : After-place_of) where
  ready : Ready c.args.book.now 4 c.args.counts.now (length c.args.steps.now)
  unfolding key
  ready = c.requires.edges

  place_is : c.place_of.result.0 ≡ place c.args.book.now 4
  unfolding key
  place_is = c.place_of.ensures ∙ ap (place c.args.book.now) c.key.ensures

  inside : c.place_of.result.0 + length c.args.steps.now + 1 + 2 * length c.args.steps.now ≤ length c.args.book.now
  inside = omega (arith, place_is, fits c.args.book.now 4 c.args.counts.now (length c.args.steps.now) ready refl (lit< tt))

pub overflow_add-at : goal.overflow_add-at
overflow_add-at c = omega (arith, inside (goal.at.overflow_add-at c).After-place_of, c.well_formed)

pub overflow_add-at-2 : goal.overflow_add-at-2
overflow_add-at-2 c = omega (arith, inside (goal.at.overflow_add-at-2 c).After-place_of, c.well_formed)

pub overflow_add-end : goal.overflow_add-end
overflow_add-end c = omega (arith, inside (goal.at.overflow_add-end c).After-place_of, c.well_formed)

pub offset_bounds-book-at : goal.offset_bounds-book-at
offset_bounds-book-at c = omega (arith, inside (goal.at.offset_bounds-book-at c).After-place_of, c.well_formed)

pub slice_bounds-write_steps-end : goal.slice_bounds-write_steps-end
slice_bounds-write_steps-end c = omega (arith, inside (goal.at.slice_bounds-write_steps-end c).After-place_of)

pub write_steps-requires : goal.write_steps-requires
write_steps-requires c =
    let at = (goal.at.write_steps-requires c).After-place_of in
    let ws = c.args.book.now in
    let counts = c.args.counts.now in
    let n = length c.args.steps.now in
    record {
      rowed = subst (λ (l : List ℕ). Rowed 2 n l counts) (sym (part_at ws 4 counts n (ready at) refl (lit< tt) c.place_of.result.0 (place_is at))) (rowed ws 4 counts n (ready at) refl (lit< tt));
      even = c.requires.even;
    }

pub returns : goal.returns
returns c =
    let at = (goal.at.returns c).After-place_of in
    let ws = c.args.book.now in
    let counts = c.args.counts.now in
    let n = length c.args.steps.now in
    let cut = part_at ws 4 counts n (ready at) refl (lit< tt) c.place_of.result.0 (place_is at) in
    let e = c.write_steps.ensures in
    record {
      steps = e.steps ∙ ap (λ (l : List ℕ). map (λ i. edge_step counts (pair_at l i)) (up_to n)) cut ∙ sym (steps-part ws counts n (ready at));
      bytes = e.bytes ∙ ap (λ (l : List ℕ). map (λ i. edge_byte counts (pair_at l i)) (up_to n)) cut ∙ sym (bytes-part ws counts n (ready at));
    }
