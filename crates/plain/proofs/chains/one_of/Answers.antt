-- The first word that is v decides.
use Rattle.std.proofs.Common.{sym, arith}
use Rattle.std.proofs.lemmas.Grind.{common_steps}
use mathlib.Core.Bool.{or-false}
use borrow.Author.Tests.{ne_eqb}
use Rattle.rules.specs.Lists.{any_of, has}
use Rattle.plain.proofs.chains.one_of.Goals as goal

pub returns-then-v-c : goal.returns-then-v-c
unfolding has any_of
returns-then-v-c c = grind (arith, common_steps)

pub returns-else-v-c : goal.returns-else-v-c
unfolding has any_of
returns-else-v-c c = let n = c.if-v-c.false in rw (ne_eqb _ _ n.0, ne_eqb _ _ n.1, ne_eqb _ _ n.2) (sym (or-false _))
