-- The entities are those that Build meets in the cells so far.
use Rattle.std.proofs.Common.{◌≡◌, ◌≤◌, ◌+◌, sym, map, length, take, arith, rules}
use lib.Seq.{length-take-le}
use Rattle.rules.specs.Lists.{choose}
use Rattle.rules.specs.Book.{most}
use Rattle.relations.specs.Words.{row_at}
use Rattle.building.specs.Sets.{padded}
use Rattle.building.proofs.Meeting.{found_none, found-more, most-few, start-within, row-cell, cell-candidates, front-candidates}
use Rattle.building.proofs.meet.Met.meet_cells.Goals.{After-candidates}
use Rattle.building.proofs.meet.Met.meet_cells.Goals as goal

-- the cell's candidates
candidates-are : (c : goal.After-candidates) → take (most c.args.cells.from c.args.d) c.candidates.result ≡ map (padded c.args.d) (choose (c.args.d + 1) (row_at c.args.book.now c.args.cells.at.0 c.args.cells.rows c.loop-c.c))
candidates-are c =
    let e = row-cell c.requires.corners c.loop-c.c c.loop-c-test.true c.requires.between.most _ c.start.ensures _ c.corners-cell.ensures in
    rw e at c.candidates.ensures

pub loop-c-init : goal.loop-c-init
loop-c-init c = found_none _ _ _ _ _ c.requires.none

pub corners-cell-requires : goal.corners-cell-requires
corners-cell-requires c =
    omega (arith, c.start.ensures, start-within c.requires.corners c.loop-c.c c.loop-c-test.true, c.well_formed)

-- a cell has at most six candidates
few : (c : goal.After-candidates) → c.choices-many.result ≤ 6
few c = rw c.choices-many.ensures (most-few _ _)

-- and they are among the six
within : (c : goal.After-candidates) → c.choices-many.result ≤ length c.candidates.result
within c =
    let six : length c.candidates.result ≡ 6 = search rules in
    omega (arith, six, few c)

pub slice_bounds-meet_cell-end : goal.slice_bounds-meet_cell-end
slice_bounds-meet_cell-end c = within c

pub slice_bounds-meet_cell-end-in-loop-c : goal.slice_bounds-meet_cell-end-in-loop-c
slice_bounds-meet_cell-end-in-loop-c c = sym (length-take-le _ _ (within (goal.at.slice_bounds-meet_cell-end-in-loop-c c).After-candidates))

pub meet_cell-requires : goal.meet_cell-requires
meet_cell-requires c =
    let k = (goal.at.meet_cell-requires c).After-candidates in
    let m = c.choices-many.ensures in
    let long = length-take-le c.choices-many.result c.candidates.result (within k) in
    record {
      room = omega (arith, c.loop-c.invariant.few, c.loop-c-test.true, c.requires.corners.few);
      few = omega (arith, long, few k);
      good = front-candidates _ _ (rw m (cell-candidates c.requires.corners c.loop-c.c c.loop-c-test.true c.requires.between c.candidates.result (search rules) (candidates-are k)));
    }

pub loop-c-preserved : goal.loop-c-preserved
loop-c-preserved c =
    let k = (goal.at.loop-c-preserved c).After-candidates in
    rw (c.meet_cell.ensures, c.choices-many.ensures)
    (found-more c.loop-c.invariant _ (omega (arith, length-take-le (most c.args.cells.from c.args.d) c.candidates.result (omega (arith, most-few c.args.cells.from c.args.d)), most-few c.args.cells.from c.args.d)) (candidates-are k))
