-- The sets that the cells meet are as many as d→0 has rows.
use Rattle.std.proofs.Common.{sym, ◌∙◌}
use Rattle.building.proofs.Entities.{held-length}
use Rattle.building.proofs.Standing.{between, ready-corners, made-count}
use Rattle.building.proofs.found.Goals as goal

pub meet_cells-requires-clause-between : goal.meet_cells-requires-clause-between
meet_cells-requires-clause-between c = between c.requires.ready c.requires.source c.requires.d_nonzero

pub meet_cells-requires-clause-corners : goal.meet_cells-requires-clause-corners
meet_cells-requires-clause-corners c = ready-corners c.requires.ready c.requires.source c.requires.d_nonzero

pub returns : goal.returns
returns c =
    let q = c.requires in
    sym (held-length _ _ _ c.met.view_is) ∙ made-count q.ready q.source q.d_nonzero _ c.meet_cells.ensures
