-- The file of the book's first word and of its cells is the book's.
use Rattle.reading.proofs.Writing.{file-put}
use Rattle.reading.proofs.writes.put_file.Goals as goal

pub returns : goal.returns
returns c =
    file-put c.args.book.now c.words.ensures.right.frame c.args.bytes.now _ _
    (rw (c.word.ensures, c.words.ensures.words) at c.write.ensures.0)
    (rw (c.word.ensures, c.words.ensures.words, c.cells.ensures, c.words-2.ensures.words) at c.write.ensures.1)
