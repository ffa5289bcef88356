-- The candidates so far that no cell before has are counted.
use Rattle.std.proofs.Common.{◌≡◌, ◌≤◌, ◌<◌, ◌+◌, ◌*◌, ◌/◌, ℕ, Bool, [], sym, ◌∙◌, arith, length, take, get_or}
use mathlib.Core.List.{Memᴰ as In}
use Rattle.rules.specs.Lists.{any_of, inside, choose}
use Rattle.rules.specs.Book.{most}
use Rattle.rules.proofs.Tests.{get_or-in}
use Rattle.rules.proofs.Choose.{chosen}
use Rattle.plain.specs.Cells.{cell_at, cells_before}
use Rattle.plain.specs.Links.{FirstOf}
use Rattle.plain.proofs.Before.{cell-fits}
use Rattle.plain.proofs.Links.{place-cell, corner, at-corner, set-low}
use Rattle.plain.proofs.Counting.{news-none, many-candidates}
use Rattle.plain.proofs.Seeking.{cell-found, cell-next}
use Rattle.plain.proofs.numbering.seek_in_cell.Goals.{After-candidate-set}
use Rattle.plain.proofs.numbering.seek_in_cell.Goals as goal

-- the cell lies within the words
within : (c : goal.After-candidate-set) → c.args.c * (c.args.mesh.now.sizes.dim + 1) + (c.args.mesh.now.sizes.dim + 1) ≤ length c.args.mesh.now.words.now
within c = cell-fits (c.args.mesh.now.sizes.dim + 1) c.args.mesh.now.words.now c.args.c c.args.mesh.now.sizes.cells c.requires.cell (omega (arith, c.args.mesh.now.cells.long))

-- the candidate is there
below : (c : goal.After-candidate-set) → c.loop-q.q < most c.args.mesh.now.sizes.dim c.args.entity.dim
below c = omega (arith, c.loop-q-test.true, c.choices-q-end.ensures)

-- which it is
set_is : (c : goal.After-candidate-set) → take (c.args.entity.dim + 1) c.candidate-set.result ≡ get_or (choose (c.args.entity.dim + 1) (cell_at (c.args.mesh.now.sizes.dim + 1) c.args.mesh.now.words.now c.args.c)) c.loop-q.q []
set_is c = c.candidate-set.ensures ∙ rw c.cell_at-cell.ensures

-- its members are the cell's
set-inside : (c : goal.After-candidate-set) (j : ℕ) → In j (take (c.args.entity.dim + 1) c.candidate-set.result) → In j (cell_at (c.args.mesh.now.sizes.dim + 1) c.args.mesh.now.words.now c.args.c)
set-inside c j i =
    let p = c.requires in
    let d = c.args.entity.dim in
    let cs = cell_at (c.args.mesh.now.sizes.dim + 1) c.args.mesh.now.words.now c.args.c in
    let l : c.loop-q.q < length (choose (d + 1) cs) = rw (many-candidates c.args.mesh.now.cells d p.between.0 p.between.1 c.args.c p.cell) (below c) in
    (chosen (d + 1) cs _ (c.args.mesh.now.cells.up c.args.c p.cell) (get_or-in (choose (d + 1) cs) c.loop-q.q [] l)).within j (rw (set_is c) at i)

-- whether a cell before has it, asked at the corner of its rarest member
met-is : (c : goal.After-candidate-set) (r k : ℕ) (met : Bool) → FirstOf (take (c.args.mesh.now.sizes.dim + 1) c.cell_at-cell.result) (length (take (c.args.mesh.now.sizes.dim + 1) c.cell_at-cell.result)) (get_or (take (c.args.entity.dim + 1) c.candidate-set.result) r 0) k
    → r < length (take (c.args.entity.dim + 1) c.candidate-set.result)
    → met ≡ any_of (inside (take (c.args.entity.dim + 1) c.candidate-set.result)) (cells_before (c.args.mesh.now.sizes.dim + 1) c.args.mesh.now.words.now ((c.args.c * (c.args.mesh.now.sizes.dim + 1) + k) / (c.args.mesh.now.sizes.dim + 1)))
    → met ≡ any_of (inside (get_or (choose (c.args.entity.dim + 1) (cell_at (c.args.mesh.now.sizes.dim + 1) c.args.mesh.now.words.now c.args.c)) c.loop-q.q [])) (cells_before (c.args.mesh.now.sizes.dim + 1) c.args.mesh.now.words.now c.args.c)
met-is c r k met f l e =
    let size = c.args.mesh.now.sizes.dim + 1 in
    let low = corner c.args.mesh.now.words.now size c.args.c _ _ r k (within c) c.cell_at-cell.ensures f l (set-inside c) in
    let here : (c.args.c * size + k) / size ≡ c.args.c = place-cell size c.args.c k low in
    e ∙ rw (here, set_is c)

pub loop-q-init : goal.loop-q-init
loop-q-init c =
    let a = c.args in
    rw (news-none a.mesh.now.sizes.dim a.entity.dim a.mesh.now.words.now a.c) (omega arith)

pub rarest-k-requires-clause-below : goal.rarest-k-requires-clause-below
rarest-k-requires-clause-below c =
    let k = (goal.at.rarest-k-requires-clause-below c).After-candidate-set in
    set-low c.args.mesh.now.words.now (c.args.mesh.now.sizes.dim + 1) c.args.c _ c.args.mesh.now.cells.small (within k) (set-inside k)

pub met_before-met-requires-clause-corner : goal.met_before-met-requires-clause-corner
met_before-met-requires-clause-corner c =
    let k = (goal.at.met_before-met-requires-clause-corner c).After-candidate-set in
    at-corner c.args.mesh.now.words.now (c.args.mesh.now.sizes.dim + 1) c.args.c _ _ c.rarest-k.result c.corner_of.result (within k) c.cell_at-cell.ensures c.corner_of.ensures c.rarest-k.ensures.member (set-inside k)

pub returns-then-is_it : goal.returns-then-is_it
returns-then-is_it c =
    let p = c.requires in
    let t = c.loop-q in
    let k = (goal.at.returns-then-is_it c).After-candidate-set in
    cell-found c.args.mesh.now.cells p.cell p.between.0 p.between.1 c.args.entity.number t.q t.left (below k) t.invariant c.met_before-met.result (met-is k _ _ _ c.corner_of.ensures c.rarest-k.ensures.member c.met_before-met.ensures) (sym c.is_it.ensures ∙ c.if-is_it.true) _ (set_is k)

pub loop-q-preserved : goal.loop-q-preserved
loop-q-preserved c =
    let p = c.requires in
    let t = c.loop-q in
    let k = (goal.at.loop-q-preserved c).After-candidate-set in
    rw c.left_after-left.ensures (cell-next c.args.mesh.now.cells p.cell p.between.0 p.between.1 c.args.entity.number t.q t.left (below k) t.invariant c.met_before-met.result (met-is k _ _ _ c.corner_of.ensures c.rarest-k.ensures.member c.met_before-met.ensures) (sym c.is_it.ensures ∙ c.if-is_it.false))
