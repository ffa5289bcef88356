-- Two stores, and a third for a face.
use native.Mathlib.Omega.{arith}
use mathlib.Core.Path.{◌≡◌}
use Rattle.building.proofs.Rows.{two-written, three-written}
use Rattle.building.proofs.write.write_set.Goals as goal

pub returns-then-d-eq2 : goal.returns-then-d-eq2
returns-then-d-eq2 c =
    let p = c in
    let t = p in
    let q = t in
    let r = q in
    rw (p.put-then-d-eq2.ensures, q.put-2.ensures, r.put.ensures) (three-written _ _ _ _ _ t.if-d-eq2.true)

pub returns-else-d-eq2 : goal.returns-else-d-eq2
returns-else-d-eq2 c =
    let q = c in
    let r = q in
    let s = r in
    let n = c.if-d-eq2.false in
    let e : s.args.d ≡ 1 = omega (arith, s.requires.size, n) in
    rw (q.put-2.ensures, r.put.ensures) (two-written _ _ _ _ _ e)
