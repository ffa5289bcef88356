-- The bits up to the end of cell c, in whole bytes, are more than the file has.
use mathlib.Core.Path.{◌≡◌, ap, ◌∙◌}
use Prim.Native.Nat.{ℕ, ◌+◌, ◌*◌, ◌/◌}
use native.Mathlib.Omega.{arith}
use lib.ListN.{length}
use lib.Dec.{ltb}
use native.Mathlib.Decide.{dec_lt}
use borrow.Author.Tests.{lt-ltb, le-ltb}
use Rattle.rules.specs.File.{file_dim, bits_of, head_dim}
use Rattle.rules.specs.Salvage.{cut_off}
use Rattle.rules.proofs.Head.{head-dim}
use Rattle.salvaging.proofs.cells.is_cut.Goals as goal

-- n bytes have fewer bits than b exactly when they are fewer than the bytes of b bits
fewer_bytes : (b n : ℕ) → ltb n ((b + 7) / 8) ≡ ltb (8 * n) b
fewer_bytes b n = elim (dec_lt (8 * n) b) [
  | yes l ↦ rw (lt-ltb (8 * n) b l, lt-ltb n ((b + 7) / 8) (omega arith))
  | no m ↦ rw (le-ltb (8 * n) b (omega arith), le-ltb n ((b + 7) / 8) (omega arith))
]

-- a cell has a vertex more than the file's dimension
corners-are : (c : goal.After-corners) → c.corners.result ≡ file_dim c.args.file.now.bytes.now + 1
corners-are c = c.corners.ensures.corners ∙ ap (λ (d : ℕ). d + 1) (ap head_dim c.args.file.now.head_is ∙ head-dim c.args.file.now.bytes.now)

pub returns : goal.returns
unfolding cut_off bits_of
returns c = let a = c.args in rw (corners-are c) (fewer_bytes (bits_of (file_dim a.file.now.bytes.now) (a.c + 1)) (length a.file.now.bytes.now))
