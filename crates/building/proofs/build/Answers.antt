-- A book that is ready for d→0 has cells as the loops ask for them, and the sets that they meet are d→0 as the rules make it.
use Rattle.std.proofs.Common.{sym, ◌∙◌, arith}
use Rattle.building.proofs.Entities.{held-length}
use Rattle.building.proofs.Standing.{between, ready-corners, made-rows, made-count}
use Rattle.building.proofs.build.Goals as goal

pub meet_cells-requires-clause-between : goal.meet_cells-requires-clause-between
meet_cells-requires-clause-between c = between c.requires.ready c.requires.source c.requires.d_nonzero

pub meet_cells-requires-clause-corners : goal.meet_cells-requires-clause-corners
meet_cells-requires-clause-corners c = ready-corners c.requires.ready c.requires.source c.requires.d_nonzero

pub write-end-requires-clause-size : goal.write-end-requires-clause-size
write-end-requires-clause-size c =
    let b = between c.requires.ready c.requires.source c.requires.d_nonzero in
    (b.low, omega (arith, b.high, b.most))

pub returns : goal.returns
returns c =
    let q = c.requires in
    record {
      written = rw (made-rows q.ready q.source q.d_nonzero _ c.meet_cells.ensures) at c.write-end.ensures;
      count_value = sym (held-length _ _ _ c.met.view_is) ∙ made-count q.ready q.source q.d_nonzero _ c.meet_cells.ensures;
    }
