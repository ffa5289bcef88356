-- Bit k of the mask; from key 32 on there is none, since a word is below 2^32.
use mathlib.Core.Path.{refl, sym}
use borrow.Author.Rules.{rules}
use mir.Syntax.{w32}
use mir.Val.{Fits}
use Rattle.rules.specs.Book.{named}
use Rattle.rules.proofs.AnyWords.{named_none}
use Rattle.book.proofs.named.Goals as goal

pub returns-then-k-ge32 : goal.returns-then-k-ge32
returns-then-k-ge32 c =
    let a = c.args in
    let f : Fits w32 a.mask = search rules in
    sym (named_none a.mask a.k f.fits c.if-k-ge32.true)

pub returns : goal.returns
unfolding named
returns c = refl
