-- The three cases: a triangle's edges, a tetrahedron's edges, a tetrahedron's faces.
use mathlib.Core.Path.{◌≡◌}
use lib.ListN.{length}
use Rattle.dayfile.specs.Numbers.{numbers}
use Rattle.dayfile.proofs.Numbers.{length-numbers, number_at}
use Rattle.building.proofs.Lexicographic.{triangle, edges, faces}
use borrow.Author.Rules.{rules}
use Rattle.building.proofs.candidates.candidates.Goals as goal

pub returns-then-top-eq2 : goal.returns-then-top-eq2
returns-then-top-eq2 c =
    let a = c in
    let four : length (numbers a.args.cell) ≡ 4 = rw length-numbers (search rules) in rw (number_at a.args.cell 0, number_at a.args.cell 1, number_at a.args.cell 2) at (triangle (numbers a.args.cell) four a.requires c.if-top-eq2.true)

pub returns-then-d-eq1 : goal.returns-then-d-eq1
returns-then-d-eq1 c =
    let a = c in
    let four : length (numbers a.args.cell) ≡ 4 = rw length-numbers (search rules) in rw (number_at a.args.cell 0, number_at a.args.cell 1, number_at a.args.cell 2, number_at a.args.cell 3) at (edges (numbers a.args.cell) four a.requires c.if-top-eq2.false c.if-d-eq1.true)

pub returns : goal.returns
returns c =
    let a = c in
    let four : length (numbers a.args.cell) ≡ 4 = rw length-numbers (search rules) in rw (number_at a.args.cell 0, number_at a.args.cell 1, number_at a.args.cell 2, number_at a.args.cell 3) at (faces (numbers a.args.cell) four a.requires c.if-top-eq2.false c.if-d-eq1.false)
