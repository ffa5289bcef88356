-- The words together are 0 exactly if each of them is.
use mathlib.Core.Path.{ap, ◌∙◌}
use Prim.Native.Nat.{ℕ}
use borrow.Author.Rules.{rules}
use lib.Bits.{bit_or}
use lib.Dec.{eqb}
use Rattle.std.proofs.lemmas.Iterator.{YieldsList-from_slice}
use Rattle.std.proofs.lemmas.Iterator.Consumers.{fold_from_yields_List}
use Rattle.rows.proofs.Free.{together-none}
use Rattle.rows.proofs.zeros.Goals as goal

pub returns : goal.returns
returns c =
    let ws = c.args.words.now in
    let f = fold_from_yields_List _ bit_or 0 c.fold.result c.fold.ensures.ran (YieldsList-from_slice ws (search rules)) (λ a x b q k. search rules) in
    ap (λ (n : ℕ). eqb n 0) f ∙ together-none 0 ws
