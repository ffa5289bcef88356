-- `closing::may_be_lent` meets its contract: its tests are those of the definition.
use mir.Syntax.{w32}
use mir.ValLaws.{to_z-of_z}
use Rattle.closing.proofs.Lent.{under, among, over}
use Rattle.closing.proofs.may_be_lent.Goals as goal

pub returns-then-count-ltminus32768 : goal.returns-then-count-ltminus32768
returns-then-count-ltminus32768 c =
    let start = c in
    under start.args.count (rw (to_z-of_z w32 start.args.count start.ranges.count) at c.if-count-ltminus32768.true)

pub returns-then-count-lt32768 : goal.returns-then-count-lt32768
returns-then-count-lt32768 c =
    let start = c in
    let e = to_z-of_z w32 start.args.count start.ranges.count in
    among start.args.count (rw e at c.if-count-ltminus32768.false) (rw e at c.if-count-lt32768.true)

pub returns : goal.returns
returns c =
    let start = c in
    over start.args.count (rw (to_z-of_z w32 start.args.count start.ranges.count) at c.if-count-lt32768.false)
