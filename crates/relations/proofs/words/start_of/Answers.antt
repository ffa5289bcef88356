-- The offset is read; the sum fits because the offsets lie in the book.
use mathlib.Core.Path.{refl}
use Rattle.relations.specs.Words.{start_of}
use Rattle.relations.proofs.words.start_of.Goals as goal

pub returns : goal.returns
unfolding start_of
returns c = refl
