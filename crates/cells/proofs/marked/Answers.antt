-- The marks of the vertices below n are filtered and counted.
use mathlib.Core.Path.{◌≡◌, ◌∙◌}
use native.Mathlib.Omega.{arith}
use lib.ListN.{length, take}
use lib.Dec.{eqb}
use borrow.Author.Rules.{rules}
use borrow.Author.Tests.{tests}
use Rattle.std.proofs.lemmas.Iterator.{YieldsList-from_slice}
use Rattle.std.proofs.lemmas.Iterator.Consumers.{count_from_yields_List, YieldsList-from_filter}
use Rattle.std.specs.List.{filter}
use Rattle.rules.specs.Stamps.{bears}
use Rattle.cells.proofs.Marks.{filtered-kept}
use Rattle.cells.proofs.marked.Goals as goal

pub returns : goal.returns
unfolding bears
returns c =
    let m = c.args.marks.now in
    let n = c.args.n in
    let e : c.count.result ≡ length (filter (λ x. eqb x 1) (take n m)) = count_from_yields_List c.filter.result c.count.result c.count.ensures.ran (YieldsList-from_filter _ (λ x. eqb x 1) (YieldsList-from_slice (take n m) (search rules)) c.filter.ensures.closure (λ x r q k. search (rules, tests))) in
    e ∙ filtered-kept (λ x. eqb x 1) m n (omega arith)
