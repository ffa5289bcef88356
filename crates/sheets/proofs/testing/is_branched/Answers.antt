-- The number of cells is tested for one, then for two.
use mathlib.Core.Path.{◌≡◌, sym, ap, ◌∙◌}
use lib.ListN.{length}
use borrow.Author.Tests.{eq-eqb, ne_eqb}
use Rattle.rules.specs.Sheet.{cells_at, branched}
use Rattle.sheets.proofs.testing.is_branched.Goals as goal

pub returns-then-n-eq1 : goal.returns-then-n-eq1
unfolding branched
returns-then-n-eq1 c =
    let many : length c.cells-n.result.now ≡ length (cells_at c.args.triangles.now.book.now c.args.k) = ap length c.cells-n.ensures in
    let e = eq-eqb _ _ (sym many ∙ c.if-n-eq1.true) in rw e

pub returns : goal.returns
unfolding branched
returns c =
    let many : length c.cells-n.result.now ≡ length (cells_at c.args.triangles.now.book.now c.args.k) = ap length c.cells-n.ensures in
    let n : length (cells_at c.args.triangles.now.book.now c.args.k) ≡ 1 → ⊥ = λ e. c.if-n-eq1.false (many ∙ e) in
    rw (ne_eqb _ 1 n, ← many)
