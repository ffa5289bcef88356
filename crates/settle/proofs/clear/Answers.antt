-- Up to the end of the book.
use Rattle.settle.proofs.Clearing.{zeroed_rest}
use Rattle.settle.proofs.clear.Goals as goal

pub returns : goal.returns
returns c = zeroed_rest _ _ _ c.zero.ensures
