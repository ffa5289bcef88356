-- The cells are searched for the first with a vertex out of range.
use mathlib.Core.Path.{◌≡◌, ◌∙◌}
use mathlib.Core.Bool.{true, false}
use mathlib.Core.List.{List}
use Prim.Native.Nat.{ℕ, ◌+◌}
use borrow.Author.Rules.{rules}
use borrow.Author.Tests.{tests}
use lib.ListN.{take}
use Rattle.std.proofs.lemmas.Iterator.{first_from_Range}
use Rattle.std.specs.Option.{option_map}
use Rattle.rules.specs.File.{out_of, head_vertices, head_dim}
use Rattle.repeats.specs.Rows.{row_at}
use Rattle.dayfile.specs.Numbers.{cell_numbered}
use Rattle.dayfile.specs.Words.{cells_in}
use Rattle.dayfile.proofs.Lowest.{cell-found}
use Rattle.dayfile.proofs.faults.first_out.Goals as goal

pub returns : goal.returns
unfolding cells_in
returns c =
    let a = c.args in
    let p = out_of (head_vertices a.head.0) in
    let row : ℕ → List ℕ = λ k. take (head_dim a.head.0 + 1) (row_at 4 a.words.now k) in
    let e : c.map.result ≡ option_map cell_numbered c.find.result = search (rules, tests) in
    e ∙ rw c.cells.ensures at (cell-found p row c.cells.result c.find.result
    (first_from_Range _ _ _ c.find.result (λ k. p (row k) ≡ true) (λ k. p (row k) ≡ false) c.find.ensures.ran (λ x q h. search (rules, tests)) (λ x q h. search (rules, tests))))
