-- The cursors stand over the rows at the row's vertices, and their merge is the row of the rules.
use Rattle.relations.proofs.Placed.{rows-within}
use Rattle.merging.proofs.Standing.{row-rises, row_ends, row-length, row_below, near-sources}
use Rattle.intersecting.proofs.InnerRows.{inner-row}
use native.Mathlib.Omega.{arith}
use Rattle.intersecting.proofs.inner_row.Goals as goal

pub overflow_sub-m : goal.overflow_sub-m
overflow_sub-m c =
    let b = c in
    let s = b in
    row-rises _ _ _ _ _ _ s.requires.incidence.through (omega arith) s.args.i s.requires.row _ _ b.start-a.ensures b.start.ensures

pub over-cursors-requires : goal.over-cursors-requires
over-cursors-requires c =
    let b = c in
    let s = b in
    let f = row-length _ _ _ _ _ _ s.requires.incidence.through (omega arith) s.args.i s.requires.row _ _ b.start-a.ensures b.start.ensures in
    let l = row_below _ _ _ _ _ _ s.requires.incidence.through (omega arith) s.args.i s.requires.row _ _ b.start-a.ensures b.start.ensures in
    let e = row_ends _ _ _ _ _ _ s.requires.incidence.through (omega arith) s.args.i s.requires.row _ _ b.start-a.ensures b.start.ensures in record { few = omega (arith, f, s.requires.incidence.few s.args.i s.requires.row); rows = rows-within s.requires.incidence.through.backed _ (omega arith); part = omega (arith, e); below = l }

pub merge_row-requires : goal.merge_row-requires
merge_row-requires c =
    let q = c.requires in
    let t = q.incidence.through in
    record {
      sources = rw c.over-cursors.ensures.count (near-sources _ _ _ _ _ _ t (omega arith) c.args.i q.row _ _ c.start-a.ensures c.start.ensures _ _ c.over-cursors.ensures.stand);
      sieve = record { rows = q.rows; few = omega arith; part = row_ends _ _ _ _ _ _ t (omega arith) c.args.i q.row _ _ c.start-a.ensures c.start.ensures };
      fits = q.fits;
    }

pub returns : goal.returns
returns c =
    let q = c.requires in
    rw (c.over-cursors.ensures.count, inner-row _ _ _ _ _ _ q.incidence.through (omega arith) c.args.i q.row _ _ c.start-a.ensures c.start.ensures _ _ c.over-cursors.ensures.stand c.args.sub.at.0 c.args.sub.rows) at c.merge_row.ensures
