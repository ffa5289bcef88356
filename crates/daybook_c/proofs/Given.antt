-- What comes with a number: the cell with 7, 8 and 23, small dimensions with an accepted row, a yes or no as a number, and the ends of a box.
use mathlib.Core.Path.{◌≡◌, refl, sym, ap, ◌∙◌}
use mathlib.Core.Bool.{Bool, true, false, cond, not, ◌||◌}
use mathlib.Core.List.{List, []}
use Prim.Native.Nat.{ℕ, ◌≤◌, ◌<◌}
use native.Mathlib.Omega.{arith}
use lib.Dec.{eqb}
use lib.Ieee.{Float}
use mir.Val.{bool_byte}
use Rattle.rules.specs.Calls.{fault_cell, load_number, load_cell, row_rules, row_number, first_broken}
use Rattle.rules.specs.Book.{dim, key, frame_right}
use Rattle.rules.specs.Boxes.{some_box, box_after}
use Rattle.rules.proofs.FrameRule.{framed}
use Rattle.rules.proofs.Accepted.{rowed}
use Rattle.boxes.specs.Growing.{ends_of}
use Rattle.boxes.specs.declared.shapes.Bounds.{Bounds}

pub cell-given : (f ws : List ℕ) (n : ℕ) → load_number f ws ≡ n → (eqb n 7 || eqb n 8 || eqb n 23) ≡ true → load_cell f ws ≡ fault_cell f
unfolding load_cell
cell-given f ws n e h = rw (e, h)

-- an accepted row has a right frame
frame-of : (ws : List ℕ) (d e i : ℕ) → row_number ws d e i ≡ 0 → frame_right ws ≡ true
unfolding row_number row_rules first_broken
frame-of ws d e i z = go (frame_right ws) refl _ z
  where
    go : (b : Bool) → frame_right ws ≡ b → (rest : ℕ) → ◌≡◌ {A = ℕ} (cond (not b) 10 rest) 0 → frame_right ws ≡ true
    go true q rest z = q
    go false q rest z = absurd (omega arith)

pub accepted-low : (ws : List ℕ) (d e i : ℕ) → row_number ws d e i ≡ 0 → (d ≤ 3) × (e ≤ 3)
accepted-low ws d e i z =
    let a = rowed ws d e i z in
    let f = framed ws (frame-of ws d e i z) in
    (omega (arith, a.first, f.high), omega (arith, a.second, f.high))

pub key-low : (d e : ℕ) → d ≤ 3 → e ≤ 3 → key d e < 16
unfolding key
key-low d e a b = omega arith

-- yes is 1 and no is 0
pub flag_is : {b c : Bool} → b ≡ c → bool_byte b ≡ cond c 1 0
flag_is {c = true} e = ap bool_byte e
flag_is {c = false} e = ap bool_byte e

-- a box that is given is held afterwards, and there is one
module _ (b : Bounds) (given : List Float) (e : ends_of b ≡ given) where
  some-given : some_box given ≡ true
  unfolding some_box ends_of
  some-given = rw (← e)

  pub ends-put : (before : List Float) → ends_of b ≡ box_after given before
  unfolding box_after
  ends-put before = rw some-given e

  pub some-put : ◌≡◌ {A = ℕ} 1 (cond (some_box given) 1 0)
  some-put = rw some-given

-- where none is given nothing is written, and there is none
module _ (given : List Float) (e : [] ≡ given) where
  pub ends-kept : (before : List Float) → before ≡ box_after given before
  unfolding box_after some_box
  ends-kept before = rw (← e)

  pub none-put : ◌≡◌ {A = ℕ} 0 (cond (some_box given) 1 0)
  unfolding some_box
  none-put = rw (← e)
