-- After each byte the field ends in what is taken, with fewer than eight bits behind it, or a byte more is taken.
use mathlib.Core.Path.{◌≡◌}
use Prim.Native.Nat.{◌+◌, ◌-◌, ◌%◌}
use native.Mathlib.Omega.{arith}
use Rattle.bits.proofs.Windows.{window-none, read_none, read-within}
use Rattle.bits.proofs.reading.take_field.Goals as goal

pub returns-then-width-eq0 : goal.returns-then-width-eq0
returns-then-width-eq0 c = let e : c.args.width ≡ 0 = omega arith in rw e (read_none _ _)

pub one_more-one-requires : goal.one_more-one-requires
one_more-one-requires c = (omega arith, (omega arith, window-none _ _))

pub returns-then-end-le8 : goal.returns-then-end-le8
returns-then-end-le8 c =
    let a = c.args in
    read-within a.bytes.now a.bit a.width 1 (8 - (a.bit % 8 + a.width)) _ _ (omega arith) (omega arith) (omega arith) c.one_more-one.ensures c.part.ensures

pub returns-then-end-le16 : goal.returns-then-end-le16
returns-then-end-le16 c =
    let a = c.args in
    read-within a.bytes.now a.bit a.width 2 (16 - (a.bit % 8 + a.width)) _ _ (omega arith) (omega arith) (omega arith) c.one_more-two.ensures c.part-then-end-le16.ensures

pub returns-then-end-le24 : goal.returns-then-end-le24
returns-then-end-le24 c =
    let a = c.args in
    read-within a.bytes.now a.bit a.width 3 (24 - (a.bit % 8 + a.width)) _ _ (omega arith) (omega arith) (omega arith) c.one_more-three.ensures c.part-then-end-le24.ensures

pub returns-then-end-le32 : goal.returns-then-end-le32
returns-then-end-le32 c =
    let a = c.args in
    read-within a.bytes.now a.bit a.width 4 (32 - (a.bit % 8 + a.width)) _ _ (omega arith) (omega arith) (omega arith) c.one_more-four.ensures c.part-then-end-le32.ensures

pub returns : goal.returns
returns c =
    let a = c.args in
    let h = c.requires in
    read-within a.bytes.now a.bit a.width 5 (40 - (a.bit % 8 + a.width)) _ _ (omega arith) (omega arith) (omega (arith, h)) c.one_more-five.ensures c.part-2.ensures
