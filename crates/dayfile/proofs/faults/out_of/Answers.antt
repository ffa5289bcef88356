-- The test is passed by one of the vertices, or by none.
use mathlib.Core.Path.{◌≡◌, ◌∙◌}
use lib.ListN.{take}
use lib.Dec.{leb}
use borrow.Author.Rules.{rules}
use borrow.Author.Tests.{tests}
use Rattle.std.proofs.lemmas.Iterator.{YieldsList-from_slice}
use Rattle.std.proofs.lemmas.Iterator.Search.{any_from_yields_List}
use Rattle.std.specs.List.{list_any, take-map}
use Rattle.rules.specs.File.{out_of, head_vertices}
use Rattle.dayfile.specs.Numbers.{numbers}
use Rattle.dayfile.proofs.Tested.{any-mapped}
use Rattle.dayfile.proofs.faults.out_of.Goals as goal

pub returns : goal.returns
unfolding out_of numbers
returns c =
    let a = c.args in
    let e : c.any.result ≡ list_any (λ v. leb (head_vertices a.head.0) v.0) (take a.n a.v) = any_from_yields_List (λ v. leb (head_vertices a.head.0) v.0) _ _ _ c.any.ensures.ran (YieldsList-from_slice (take a.n a.v) (search rules)) (λ x b q k. search (rules, tests)) in
    e ∙ any-mapped (λ v. v.0) (λ v. leb (head_vertices a.head.0) v) (take a.n a.v) ∙ rw take-map
