-- `closures::writing::reading_at` meets its contract: a word that is inside names a count.
use lib.ListN.{length, get_or}
use lib.Dec.{ltb}
use borrow.Author.Tests.{ltb-true}
use Rattle.rules.proofs.Tests.{all-place}
use Rattle.closures.proofs.writing.reading_at.Goals as goal

pub bounds-counts-v : goal.bounds-counts-v
bounds-counts-v c =
    let a = c.args in
    let pre = c.requires in
    ltb-true (get_or a.words.now a.at 0) (length a.counts.now) (all-place (λ v. ltb v (length a.counts.now)) a.words.now 0 pre.named a.at pre.there)
