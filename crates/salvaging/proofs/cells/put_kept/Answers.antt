-- The invariant: the first j vertices stand behind those of k cells.
use mathlib.Core.Path.{◌≡◌}
use Prim.Native.Nat.{ℕ, ◌+◌, ◌*◌, ◌≤◌, ◌<◌}
use native.Mathlib.Nat.{mul-le-mul, mul-suc}
use native.Mathlib.Numerals.{add-one}
use native.Mathlib.Omega.{arith}
use lib.ListN.{length}
use lib.Seq.{paste, paste-suc, take-paste}
use borrow.Author.Rules.{rules}
use Rattle.dayfile.specs.Numbers.{numbers}
use Rattle.dayfile.proofs.Numbers.{length-numbers, number_at}
use Rattle.salvaging.proofs.cells.put_kept.Goals as goal

-- the cell's place is within the vertices
room : (n k : ℕ) → n ≤ 4 → k < 4096 → n * k + n ≤ 16384
room n k l m = omega (arith, mul-le-mul {n₁ = n} {m₁ = k + 1} {n₂ = 4} {m₂ = 4096} l (omega arith), mul-suc n k, add-one k)

pub loop-j-preserved : goal.loop-j-preserved
loop-j-preserved c =
    let t = c.loop-j in
    let v = c.args.v in
    let four : length (numbers v) ≡ 4 = rw length-numbers (search rules) in
    let long : length c.args.vertices.now ≡ 16384 = search rules in
    let fits = room c.args.n c.args.k (omega arith) (omega arith) in
    rw (t.invariant, ← number_at v t.j, add-one t.j) (paste-suc c.args.vertices.now (c.args.n * c.args.k) (numbers v) t.j 0 (omega arith) (omega arith))

pub returns : goal.returns
returns c =
    let t = c.loop-j in
    let v = c.args.v in
    let n = c.args.n in
    let k = c.args.k in
    let four : length (numbers v) ≡ 4 = rw length-numbers (search rules) in
    let long : length c.args.vertices.now ≡ 16384 = search rules in
    let fits = room n k (omega arith) (omega arith) in
    let j : t.j ≡ n = omega arith in
    let e : t.vertices ≡ paste c.args.vertices.now (n * k) (numbers v) n = rw j at t.invariant in
    let m : n * (k + 1) ≡ n * k + n = omega (arith, mul-suc n k, add-one k) in
    rw (e, m) (take-paste c.args.vertices.now (n * k) (numbers v) n (omega arith) (omega arith))
