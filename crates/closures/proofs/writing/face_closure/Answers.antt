-- `closures::writing::face_closure` meets its contract: its three counts may be lent, so its steps and their closure are exact.
use mathlib.Core.Path.{◌∙◌}
use native.Mathlib.Omega.{arith}
use lib.ListN.{get_or}
use lib.Dec.{T}
use lib.IntN.{pos}
use mir.Syntax.{w32}
use mir.ValLaws.{to_z-of_z}
use Rattle.rules.specs.Phases.{counted}
use Rattle.rules.specs.Closures.{count_at, face_closure}
use Rattle.closures.proofs.Rowing.{count-right}
use Rattle.closures.proofs.writing.face_closure.Goals as goal

pub returns : goal.returns
unfolding face_closure count_at
returns c =
    let face = c.args.face.now in
    let counts = c.args.counts.now in
    let rows = c.requires in
    let k = get_or counts (get_or face 0 0) (pos 0) in
    let l = get_or counts (get_or face 1 0) (pos 0) in
    let m = get_or counts (get_or face 2 0) (pos 0) in
    let K : T (counted k) = count-right 3 1 face counts rows 0 (omega (arith, rows.sized)) in
    let L : T (counted l) = count-right 3 1 face counts rows 1 (omega (arith, rows.sized)) in
    let M : T (counted m) = count-right 3 1 face counts rows 2 (omega (arith, rows.sized)) in
    let p = c.reading_at-a.ensures in
    let q = c.reading_at-b.ensures in
    let r = c.reading_at-c.ensures in
    to_z-of_z w32 c.closure.result (record { sfits = c.closure.type_inv })
    ∙ c.closure.ensures.counts k l m K L M (c.step.ensures.counts k l K L p q) (c.step-2.ensures.counts l m L M q r) (c.step-3.ensures.counts k m K M p r)
