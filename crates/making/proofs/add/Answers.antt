-- What does not fit is cleared away; what fits is settled at its place, with the head set.
use mathlib.Core.Path.{ap, ◌∙◌}
use native.Mathlib.Omega.{arith}
use Rattle.rules.specs.Book.{place}
use Rattle.rules.proofs.FrameRule.{framed}
use Rattle.making.proofs.Grown.{low-dims, ready, stays, cut, key_below, mask_is, mask_fits, end_fits, grows}
use Rattle.making.proofs.add.Goals as goal

pub key-k-requires : goal.key-k-requires
key-k-requires c = low-dims _ _ _ c.requires

pub append-new-requires : goal.append-new-requires
append-new-requires c = ready _ _ _ c.requires _ c.word.ensures

pub returns-then-book-end : goal.returns-then-book-end
returns-then-book-end c = let all = stays _ _ _ c.requires _ _ _ _ c.word.ensures c.append-new.ensures c.append-new.auto.book c.if-book-end.true _ c.clear.ensures in record { fits = all.0; words = all.1 }

pub settle-requires : goal.settle-requires
settle-requires c = cut _ _ _ c.requires _ _ _ _ c.word.ensures c.append-new.ensures c.append-new.auto.book c.if-book-end.false _ (c.place_of-at.ensures ∙ ap (place c.args.book.now) c.key-k.ensures)

pub overflow_shl-k : goal.overflow_shl-k
overflow_shl-k c = omega (arith, key_below _ _ _ c.requires, c.key-k.ensures)

pub overflow_add-mask : goal.overflow_add-mask
overflow_add-mask c = record { fits = mask_fits _ _ _ c.requires _ _ c.word-mask.ensures c.key-k.ensures }

pub set_head-requires : goal.set_head-requires
set_head-requires c = (
  omega (arith, c.settle.auto.book, c.append-new.auto.book, (framed _ c.requires.frame).long),
  omega (arith, end_fits _ _ _ c.requires _ _ _ _ c.word.ensures c.append-new.ensures c.append-new.auto.book),
)

pub returns : goal.returns
returns c = let all = grows _ _ _ c.requires _ _ _ _ c.word.ensures c.append-new.ensures c.append-new.auto.book c.if-book-end.false _ (c.place_of-at.ensures ∙ ap (place c.args.book.now) c.key-k.ensures)
    _ _ _ (mask_is _ _ _ c.requires _ _ c.word-mask.ensures c.key-k.ensures) c.count_after-edges.ensures c.count_after-faces.ensures _ _ c.settle.ensures c.set_head.ensures in record { fits = all.0; words = all.1 }
