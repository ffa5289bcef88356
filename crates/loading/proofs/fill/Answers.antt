-- The head, the offsets and the cells, one behind the other, then zeros.
use mathlib.Core.Path.{◌≡◌, ◌∙◌}
use Prim.Native.Nat.{◌+◌, ◌≤◌, ◌<◌}
use native.Mathlib.Nat.{mul-le-mul}
use native.Mathlib.Omega.{arith}
use lib.ListN.{length}
use Rattle.rules.specs.File.{field, head_dim, head_cells}
use Rattle.rules.specs.Calls.{loaded}
use Rattle.rules.proofs.Fields.{dim-below}
use Rattle.rules.proofs.Head.{head-dim}
use Rattle.rules.proofs.LoadedWords.{loaded-length}
use Rattle.loading.proofs.Loading.{words-needed}
use Rattle.loading.proofs.Whole.{all-written, whole}
use Rattle.loading.proofs.fill.Goals as goal

pub write_head-requires : goal.write_head-requires
write_head-requires c =
    let head-is : c.header-head.result.0 ≡ field (c.args.file.now) 0 32 =
    c.header-head.ensures in
    let few : head_cells c.header-head.result.0 ≤ 4096 =
    rw (head-is) c.requires.few in
    let low : head_dim c.header-head.result.0 < 4 =
    rw (head-is, head-dim (c.args.file.now)) (dim-below (c.args.file.now)) in
    let e = c in
    let s = e in
    let n : head_dim e.header-head.result.0 + 1 ≤ 4 = omega (arith, low) in
    record { room = omega (arith, s.requires.room, loaded-length (c.args.file.now)); word = omega (arith, e.end_of-used.ensures, few, mul-le-mul (few) n); dim = low }

pub overflow_add-dimension : goal.overflow_add-dimension
overflow_add-dimension c =
    let head-is : c.header-head.result.0 ≡ field (c.args.file.now) 0 32 =
    c.header-head.ensures in
    let low : head_dim c.header-head.result.0 < 4 =
    rw (head-is, head-dim (c.args.file.now)) (dim-below (c.args.file.now)) in
    omega (arith, c.dimension.ensures, low)

pub write_offsets-requires : goal.write_offsets-requires
write_offsets-requires c =
    let head-is : c.header-head.result.0 ≡ field (c.args.file.now) 0 32 =
    c.header-head.ensures in
    let few : head_cells c.header-head.result.0 ≤ 4096 =
    rw (head-is) c.requires.few in
    let low : head_dim c.header-head.result.0 < 4 =
    rw (head-is, head-dim (c.args.file.now)) (dim-below (c.args.file.now)) in
    let e = c in
    (omega (arith, e.cells-cells.ensures, few), (omega (arith, c.dimension.ensures, low), omega arith))

pub write_cells-requires : goal.write_cells-requires
write_cells-requires c =
    let head-is : c.header-head.result.0 ≡ field (c.args.file.now) 0 32 =
    c.header-head.ensures in
    let used-is : c.end_of-used.result.0 ≡ length (loaded (c.args.file.now)) =
    words-needed (c.args.file.now) _ _ (head-is) c.end_of-used.ensures in
    let o = c in
    let e = o in
    let s = e in
    record { few = rw (head-is) s.requires.few; room = omega (arith, e.end_of-used.ensures, e.cells-cells.ensures, used-is, s.requires.room, o.write_offsets.auto.book, o.write_head.auto.book) }

pub returns : goal.returns
returns c =
    let head-is : c.header-head.result.0 ≡ field (c.args.file.now) 0 32 =
    c.header-head.ensures in
    let used-is : c.end_of-used.result.0 ≡ length (loaded (c.args.file.now)) =
    words-needed (c.args.file.now) _ _ (head-is) c.end_of-used.ensures in
    let t = c in
    let o = t in
    let d = o in
    let e = d in
    let s = e in
    let w = all-written (c.args.file.now) s.args.words.now _ _ _ _ (head-is) d.dimension.ensures e.cells-cells.ensures e.end_of-used.ensures s.requires.cells d.write_head.ensures o.write_offsets.ensures t.write_cells.ensures in
    c.clear.ensures ∙ whole _ _ _ _ (used-is) (omega (arith, used-is, s.requires.room)) w
