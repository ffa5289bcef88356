-- Key k of word 1.
use mathlib.Core.Path.{ap, ◌∙◌}
use Prim.Native.Nat.{ℕ}
use Rattle.rules.specs.Book.{held, named}
use Rattle.book.proofs.held.Goals as goal

pub returns : goal.returns
unfolding held
returns c = let k = c.args.k in c.named.ensures ∙ ap (λ (m : ℕ). named m k) c.word.ensures
