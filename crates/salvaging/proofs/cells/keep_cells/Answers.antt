-- The invariant: the cells passed are kept or told why not, and those kept are looked among.
use mathlib.Core.Path.{◌≡◌, ap, ◌∙◌}
use borrow.Author.Rules.{rules}
use native.Mathlib.Omega.{arith}
use mathlib.Core.List.{map}
use lib.ListN.{set, length-map}
use Rattle.std.proofs.lemmas.List.{map-set}
use Rattle.salvaging.specs.Reasons.{why_number}
use Rattle.rules.specs.File.{file_cells, head_cells}
use Rattle.rules.specs.Salvage.{kept}
use Rattle.rules.proofs.Head.{head-cells}
use Rattle.salvaging.proofs.Looking.{looked-none}
use Rattle.salvaging.proofs.Keeping.{kept-none, kept_step}
use Rattle.salvaging.proofs.cells.keep_cells.Goals as goal
use Rattle.salvaging.proofs.cells.keep_cells.Goals.{After-cells-c-end}

count-is : (c : After-cells-c-end) → c.cells-c-end.result ≡ file_cells c.args.file.now.bytes.now
count-is c = c.cells-c-end.ensures ∙ ap head_cells c.args.file.now.head_is ∙ head-cells c.args.file.now.bytes.now

pub loop-c-init : goal.loop-c-init
loop-c-init c = (looked-none _, kept-none _ _ _ (search rules) (length-map c.args.whys.now why_number ∙ search rules))

pub keep_cell-requires : goal.keep_cell-requires
keep_cell-requires c =
    let n = count-is (goal.at.keep_cell-requires c).After-cells-c-end in
    record { cell = omega (arith, n); seen = c.loop-c.invariant.0 }

pub bounds-whys-c : goal.bounds-whys-c
bounds-whys-c c = let n = count-is (goal.at.bounds-whys-c c).After-cells-c-end in omega (arith, n)

pub loop-c-preserved : goal.loop-c-preserved
loop-c-preserved c =
    let n = count-is (goal.at.loop-c-preserved c).After-cells-c-end in
    let k = c.keep_cell in
    let e : map why_number (set c.loop-c.whys c.loop-c.c k.result) ≡ set (map why_number c.loop-c.whys) c.loop-c.c (why_number k.result) = map-set why_number c.loop-c.whys c.loop-c.c k.result in
    (k.ensures.seen, rw e (kept_step c.loop-c.invariant.1 (omega (arith, n)) (why_number k.result) k.ensures.why _ _ k.array_long k.ensures.vertices))

pub returns : goal.returns
unfolding kept
returns c =
    let n = count-is (goal.at.returns c).After-cells-c-end in
    let t = c.loop-c in
    let e : t.c ≡ file_cells c.args.file.now.bytes.now = omega (arith, n) in
    let k = t.invariant.1 in
    record { number = t.invariant.0.number ∙ rw e; vertices = k.front ∙ rw e; whys = λ i l. k.told i (rw e l) }
