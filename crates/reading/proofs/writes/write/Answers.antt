-- What is not right is refused as the words decide; then the file, with or without room.
use mathlib.Core.Path.{refl}
use Rattle.rules.specs.Book.{Right}
use Rattle.rules.specs.Calls.{write_number, write_rules, write_bytes}
use Rattle.rules.proofs.Told.{untold-as}
use Rattle.right.proofs.Checks.{refuses}
use Rattle.reading.specs.Parts.{FilePut}
use Rattle.reading.proofs.Writing.{too_short, all-put}
use Rattle.reading.proofs.writes.write.Goals.{After-put_file-n}
use Rattle.reading.proofs.writes.write.Goals as goal

right : (c : After-put_file-n) → Right c.args.book.now
right c = rw c.in_ok-check.ensures.words at c.in_ok-check.ensures.right

filed : (c : After-put_file-n) → FilePut c.args.book.now c.args.bytes.now c.put_file-n.result c.put_file-n.new.bytes
filed c = rw c.in_ok-check.ensures.words at c.put_file-n.ensures

pub returns-in_err-check : goal.returns-in_err-check
unfolding write_number write_rules write_bytes
returns-in_err-check c =
    let r = refuses c.args.book.now _ _ _ c.from_residual.ensures.1 c.in_err-check.ensures.number c.in_err-check.ensures.place in
    record { number = r.number; place = r.place; length = rw r.is (record {}); bytes = rw r.some }

pub returns-then-bytes-n : goal.returns-then-bytes-n
returns-then-bytes-n c =
    let p = (goal.at.returns-then-bytes-n c).After-put_file-n in
    let r = right p in
    let g = too_short c.args.book.now c.args.bytes.now r.frame r.rows _ _ (filed p) (rw c.put_file-n.auto.bytes at c.if-bytes-n.true) in
    record { number = g.number_is; place = untold-as 18 _ _ refl g.number_is; length = record {}; bytes = g.bytes-are }

pub returns : goal.returns
returns c =
    let p = (goal.at.returns c).After-put_file-n in
    let r = right p in
    let g = all-put c.args.book.now c.args.bytes.now r.frame r.rows _ _ (filed p) (rw c.put_file-n.auto.bytes at c.if-bytes-n.false) in
    record { number = g.number_is; place = untold-as 0 _ _ refl g.number_is; length = g.length-is refl; bytes = g.bytes-are }
