-- A row stands between its two offsets, behind the relation's offsets.
use native.Mathlib.Omega.{arith}
use Rattle.sheets.proofs.Standing.{words_inside, words-rise, row-end, row_words}
use Rattle.sheets.proofs.stands.row.Goals as goal

pub bounds-book-offset : goal.bounds-book-offset
bounds-book-offset c = omega (arith, words_inside c.args.book.now c.args.at c.requires.stands c.args.i c.requires.below)

pub offset_bounds-book-offset : goal.offset_bounds-book-offset
offset_bounds-book-offset c = omega (arith, words_inside c.args.book.now c.args.at c.requires.stands c.args.i c.requires.below, c.well_formed)

pub overflow_add-first : goal.overflow_add-first
overflow_add-first c =
    omega (arith, words-rise c.args.book.now c.args.at c.requires.stands c.args.i c.requires.below, row-end c.args.book.now c.args.at c.requires.stands c.args.i c.requires.below, c.well_formed)

pub offset_bounds-book-offset-2 : goal.offset_bounds-book-offset-2
offset_bounds-book-offset-2 c = omega (arith, words_inside c.args.book.now c.args.at c.requires.stands c.args.i c.requires.below, c.well_formed)

pub bounds-book-offset-2 : goal.bounds-book-offset-2
bounds-book-offset-2 c = omega (arith, words_inside c.args.book.now c.args.at c.requires.stands c.args.i c.requires.below)

pub overflow_add-end-2 : goal.overflow_add-end-2
overflow_add-end-2 c = omega (arith, row-end c.args.book.now c.args.at c.requires.stands c.args.i c.requires.below, c.well_formed)

pub offset_bounds-book-first : goal.offset_bounds-book-first
offset_bounds-book-first c =
    omega (arith, words-rise c.args.book.now c.args.at c.requires.stands c.args.i c.requires.below, row-end c.args.book.now c.args.at c.requires.stands c.args.i c.requires.below, c.well_formed)

pub slice_bounds-result-count : goal.slice_bounds-result-count
slice_bounds-result-count c = omega (arith, words-rise c.args.book.now c.args.at c.requires.stands c.args.i c.requires.below)

pub slice_bounds-result-start : goal.slice_bounds-result-start
slice_bounds-result-start c = omega (arith, words-rise c.args.book.now c.args.at c.requires.stands c.args.i c.requires.below)

pub slice_bounds-result-end : goal.slice_bounds-result-end
slice_bounds-result-end c = omega (arith, row-end c.args.book.now c.args.at c.requires.stands c.args.i c.requires.below)

pub returns : goal.returns
returns c = row_words c.args.book.now c.args.at c.requires.stands c.args.i c.requires.below
