-- The cell's first vertices are copied.
use mathlib.Core.Path.{◌≡◌, ap, ◌∙◌}
use Prim.Native.Nat.{ℕ, ◌+◌, ◌-◌, ◌*◌}
use native.Mathlib.Omega.{arith}
use lib.ListN.{take, drop}
use Rattle.loading.proofs.Copied.{put-over, cell-words}
use Rattle.loading.proofs.write_cell.Goals as goal

pub returns : goal.returns
returns c =
    let a = c.args in
    let ws = a.words.now in
    let (same, long) = cell-words ws a.c.0 a.n c.requires.few (omega arith) in
    let n : 4 * a.c.0 + a.n - 4 * a.c.0 ≡ a.n = omega arith in
    let e = c.copy_from_slice.ensures.after ∙ ap (λ (k : ℕ). take k (drop (4 * a.c.0) ws)) n in
    rw (e, ← same) (put-over a.book.now (take a.n (drop (4 * a.c.0) ws)) a.at.0 a.n long c.requires.room)
