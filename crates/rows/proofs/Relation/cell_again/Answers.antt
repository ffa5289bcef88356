-- Where no offset is bad, the rows of D→0 are words of one size.
use mathlib.Core.Path.{◌≡◌, ap, ◌∙◌}
use Prim.Native.Nat.{ℕ, ◌+◌, ◌*◌, ◌/◌, ◌≤◌}
use native.Mathlib.Nat.{mul-le-mul}
use native.Mathlib.Omega.{arith}
use Rattle.rules.specs.Lists.{first_repeated}
use Rattle.rules.specs.Book.{rows_of}
use Rattle.rows.proofs.Cells.{part-whole, top-few, top-low, top-room, top-rows, first-most}
use Rattle.rows.proofs.Relation.cell_again.Goals.{After-first_repeated}
use Rattle.rows.proofs.Relation.cell_again.Goals as goal

pub first_repeated-requires-clause-room : goal.first_repeated-requires-clause-room
first_repeated-requires-clause-room c = let r = c.args.self in omega (arith, c.rows-n.ensures.value, top-few r.book.now r.key c.requires.whole c.requires.cells)

pub first_repeated-requires-clause-rows : goal.first_repeated-requires-clause-rows
first_repeated-requires-clause-rows c =
    let r = c.args.self in
    let room = top-room r.book.now r.key c.requires.whole c.requires.cells in
    omega (arith, part-whole c.part-cells.ensures (rw (c.rows-n.ensures.value, r.placed) room))

-- the row that was found
row_is : (c : After-first_repeated) → c.first_repeated.result ≡ first_repeated (rows_of c.args.self.book.now c.args.self.key)
row_is c =
    let r = c.args.self in
    c.first_repeated.ensures ∙ rw (c.part-cells.ensures.words, c.rows-n.ensures.value, r.placed) (ap first_repeated (top-rows r.book.now r.key c.requires.whole c.requires.cells))

-- and the words before it
short : (c : After-first_repeated) → (c.args.self.key / 4 + 1) * c.first_repeated.result ≤ 16384
short c =
    let r = c.args.self in
    let w = c.requires.whole in
    let four : r.key / 4 + 1 ≤ 4 = omega (arith, top-low r.book.now r.key w c.requires.cells) in
    let few : c.first_repeated.result ≤ 4096 = omega (arith, row_is c, first-most r.book.now r.key w.stands c.requires.cells, top-few r.book.now r.key w c.requires.cells) in
    omega (arith, mul-le-mul four few)

pub overflow_mul-result : goal.overflow_mul-result
overflow_mul-result c = omega (arith, short c)

pub overflow_add-result-2 : goal.overflow_add-result-2
overflow_add-result-2 c = omega (arith, short (goal.at.overflow_add-result-2 c).After-first_repeated)

pub returns : goal.returns
returns c = ap (λ (m : ℕ). c.rows-n.result + 1 + (c.args.self.key / 4 + 1) * m) (row_is (goal.at.returns c).After-first_repeated) ∙ rw c.rows-n.ensures.value
