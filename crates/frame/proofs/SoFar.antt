-- Word 0 and the frame rule, as code goes through their parts: each part with those before it.
use mathlib.Core.Path.{◌≡◌, sym, ◌∙◌}
use mathlib.Core.Bool.{Bool, true, false, ◌&&◌}
use mathlib.Core.List.{List}
use Prim.Native.Nat.{ℕ, ◌<◌, ◌%◌, ◌^◌}
use native.Mathlib.Omega.{arith}
use borrow.Author.Tests.{lt-ltb, le-ltb}
use lib.ListN.{length, get_or}
use lib.Dec.{eqb, ltb, leb}
use Rattle.std.proofs.Math.Bool.{and_assoc}
use Rattle.rules.specs.Lists.{all_of}
use Rattle.rules.specs.Book.{dim, count, key, held, keys_held, place, head_right, key_right, count_right, frame_right}
use Rattle.rules.proofs.FrameRule.{count-top}

-- a test is made where those before it hold
pub made : {u v p q : Bool} → u ≡ p → u ≡ true → v ≡ q → v ≡ (p && q)
made h t e = let f = sym h ∙ t in rw f e

pub not_made : {u v p : Bool} (q : Bool) → u ≡ p → u ≡ false → v ≡ u → v ≡ (p && q)
not_made q h t e = let f = sym h ∙ t in rw f (e ∙ t)

module _ (ws : List ℕ) where
  abbrev pub to_size : Bool
  to_size = leb (count ws 0) 8192 && leb (count ws (dim ws)) 4096

  pub flat_head : dim ws ≡ 0 → false ≡ head_right (get_or ws 0 0)
  unfolding head_right dim
  flat_head e = rw (le-ltb 0 (dim ws) (omega arith))

  pub whole_head : 0 < dim ws → (to_size && eqb (get_or ws 0 0 % 8) 0) ≡ head_right (get_or ws 0 0)
  unfolding head_right dim count
  whole_head l = rw (lt-ltb 0 (dim ws) l, count-top ws l)

  abbrev pub to_head : Bool
  to_head = leb 5 (length ws) && head_right (get_or ws 0 0)

  abbrev pub to_mask : Bool
  to_mask = to_head && ltb (get_or ws 1 0) (2 ^ 16)

  abbrev pub to_keys : Bool
  to_keys = to_mask && all_of (key_right ws) (keys_held ws)

  abbrev pub to_cells : Bool
  to_cells = to_keys && held ws (key (dim ws) 0)

  abbrev pub to_edges : Bool
  to_edges = to_cells && count_right ws 1

  abbrev pub to_faces : Bool
  to_faces = to_edges && count_right ws 2

  abbrev pub used_right : Bool
  used_right = leb (get_or ws 4 0) (length ws) && eqb (place ws 16) (get_or ws 4 0)

  pub whole_frame : (to_faces && used_right) ≡ frame_right ws
  unfolding frame_right
  whole_frame = sym (and_assoc to_faces (leb (get_or ws 4 0) (length ws)) (eqb (place ws 16) (get_or ws 4 0)))
