-- A part of the bytes as long as the file is filled, and the rest is left.
use mathlib.Core.Path.{◌≡◌}
use Prim.Native.Nat.{◌<◌, ◌≤◌}
use native.Mathlib.Omega.{arith}
use lib.ListN.{length}
use lib.Seq.{length-take-le}
use borrow.Author.Tests.{le-leb, lt-leb}
use Rattle.rules.specs.File.{head_length, file_bytes, put_file}
use Rattle.rules.proofs.Head.{head-length-below}
use borrow.Author.Rules.{rules}
use Rattle.dayfile.proofs.written.write.Goals as goal

pub fill-requires : goal.fill-requires
fill-requires c =
    let a = c.args in
    let w : a.head.0 < 4294967296 = search rules in
    omega (arith, head-length-below a.head.0 w, c.length-n.ensures, length-take-le c.length-n.result a.bytes.now c.if-n-room.true)

pub returns-then-n-room : goal.returns-then-n-room
unfolding put_file file_bytes head_length
returns-then-n-room c =
    let a = c.args in
    let n : c.length-n.result ≡ head_length a.head.0 = c.length-n.ensures in
    let l : head_length a.head.0 ≤ length a.bytes.now = rw n at c.if-n-room.true in
    (n, rw (le-leb (head_length a.head.0) (length a.bytes.now) l, c.fill.ensures, n, length-take-le (head_length a.head.0) a.bytes.now l))

pub returns-else-n-room : goal.returns-else-n-room
unfolding put_file
returns-else-n-room c =
    let a = c.args in
    let n : c.length-n.result ≡ head_length a.head.0 = c.length-n.ensures in
    (n, rw (lt-leb (head_length a.head.0) (length a.bytes.now) (rw n at c.if-n-room.false)))
