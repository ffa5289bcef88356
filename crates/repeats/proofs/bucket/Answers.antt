-- The words are mixed from the last to the first.
use mathlib.Core.Path.{◌≡◌, ◌∙◌}
use borrow.Author.Rules.{rules}
use Rattle.std.proofs.lemmas.Iterator.Consumers.{fold_from_yields_List}
use Rattle.std.proofs.lemmas.Iterator.Adapters.{YieldsList-from_rev_slice}
use Rattle.repeats.specs.Rows.{mixed, bucket_of}
use Rattle.repeats.proofs.Mixed.{mix, mixed-is}
use Rattle.repeats.proofs.bucket.Goals as goal

pub returns-clause-value : goal.returns-clause-value
unfolding bucket_of
returns-clause-value c =
    let all : c.fold-mixed.result ≡ mixed c.args.row.now = fold_from_yields_List _ mix 0 c.fold-mixed.result c.fold-mixed.ensures.ran (YieldsList-from_rev_slice c.args.row.now (search rules)) (λ a x b q k. search rules) ∙ mixed-is c.args.row.now in
    rw all
