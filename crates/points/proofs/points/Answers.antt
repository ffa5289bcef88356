-- i rows and i + 1 offsets are written, and no more than i stamps are used.
use Rattle.std.proofs.Common.{◌≡◌, ℕ, List, arith, length}
use Prim.Native.Nat.{min}
use Rattle.merging.specs.Near.{near_row}
use Rattle.merging.proofs.Front.{near_row-front, length-near_row}
use Rattle.points.proofs.PointRows.{around-front}
use Rattle.relations.proofs.RowByRow.{Base, row-start, row-front, row-size, row-reach, row-after, row-size-after, row_more, row-all}
use Rattle.points.proofs.points.Goals.{After-put}
use Rattle.points.proofs.points.Goals as goal

-- the rows are read from the words before `dst`
base : (c : goal.After-put) → Base (λ (vs : List ℕ). near_row vs c.args.own.at.0 c.args.own.rows c.args.back.at.0 c.args.back.rows) c.args.book.now c.put.new.book c.args.own.rows c.args.dst.0 (min c.args.dst.0 (length c.args.book.now))
base c =
    let a = c.args in
    record {
      first = c.put.ensures;
      before = omega arith;
      same = λ vs q. near_row-front vs a.book.now (min a.dst.0 (length a.book.now)) q a.own.at.0 a.own.rows a.back.at.0 a.back.rows c.requires.around.through;
      short = λ vs i. omega (arith, length-near_row vs a.own.at.0 a.own.rows a.back.at.0 a.back.rows i, c.requires.around.most);
    }

pub loop-i-init : goal.loop-i-init
loop-i-init c = (omega (arith, c.none-stamps.ensures), row-start (base ((goal.at.loop-i-init c).After-put)))

pub point_row-at-requires : goal.point_row-at-requires
point_row-at-requires c =
    let b = base ((goal.at.point_row-at-requires c).After-put) in
    let t = c.loop-i in
    record {
      around = around-front _ _ _ (row-front b t.invariant.1) c.requires.around _ (omega (arith, row-size b t.invariant.1, row-after b t.invariant.1));
      row = c.loop-i-test.true;
      stamp = t.invariant.0;
      place = omega (arith, row-reach b t.invariant.1, c.requires.around.most, c.requires.place);
    }

pub overflow_cast-at : goal.overflow_cast-at
overflow_cast-at c =
    omega (arith, row-size-after (base ((goal.at.overflow_cast-at c).After-put)) c.loop-i.invariant.1 c.loop-i-test.true c.point_row-at.auto.book c.point_row-at.ensures.written, c.requires.around.most)

pub loop-i-preserved : goal.loop-i-preserved
loop-i-preserved c =
    (omega (arith, c.point_row-at.ensures.stamp), row_more (base ((goal.at.loop-i-preserved c).After-put)) c.loop-i.invariant.1 c.loop-i-test.true c.point_row-at.auto.book c.point_row-at.ensures.written _ c.put-in-loop-i.ensures)

pub returns : goal.returns
returns c =
    let e : c.loop-i.i ≡ c.args.own.rows = omega arith in
    row-all (base ((goal.at.returns c).After-put)) _ _ (rw e at c.loop-i.invariant.1)
