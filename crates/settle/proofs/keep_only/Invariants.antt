-- The relations passed that the mask names are kept, and from the next one on the book is as it was.
use mathlib.Core.Path.{◌≡◌}
use mathlib.Core.List.{map}
use Rattle.rules.specs.Lists.{up_to}
use Rattle.rules.specs.Book.{place}
use Rattle.book.specs.Numbers.{numbers}
use Rattle.settle.proofs.Lowering.{Keeping}
use Rattle.settle.proofs.keep_only.Given as goal

abbrev pub invariant-loop-k : goal.invariant-loop-k
invariant-loop-k l = (numbers l.at ≡ map (place l.initial.book) (up_to 17)) × Keeping l.initial.book l.mask l.k l.to.0 l.book
