-- 4 + ceil(b / 8) is ceil((32 + b) / 8).
use Prim.Native.Nat.{◌<◌}
use native.Mathlib.Omega.{arith}
use Rattle.rules.specs.File.{bits_of, length_of, head_length}
use Rattle.rules.proofs.Head.{head-bits-below}
use borrow.Author.Rules.{rules}
use Rattle.dayfile.proofs.shapes.Header.length.Goals as goal

pub overflow_add-result : goal.overflow_add-result
overflow_add-result c =
    let w : c.args.self.0 < 4294967296 = search rules in
    omega (arith, c.end_bit.ensures, head-bits-below c.args.self.0 w)

pub returns : goal.returns
unfolding head_length length_of bits_of
returns c = omega (arith, c.end_bit.ensures)
