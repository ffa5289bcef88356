-- The cells before one, gone through from the nearest.
use mathlib.Core.Path.{◌≡◌, refl, sym, ◌∙◌}
use mathlib.Core.Bool.{Bool, true, false}
use mathlib.Core.List.{List, [], ◌∷◌, ◌++◌}
use Prim.Native.Nat.{ℕ, suc, ◌+◌, ◌*◌, ◌≤◌, ◌<◌}
use native.Mathlib.Nat.{mul-le-mul_right, suc-mul}
use native.Mathlib.Omega.{arith}
use lib.ListN.{length, get_or, drop, length-take, length-drop}
use lib.Seq.{get_or-take, get_or-drop}
use Rattle.rules.specs.Lists.{up_to, any_of}
use Rattle.rules.proofs.Tests.{any-of, any_last}
use Rattle.rules.proofs.Keep.{up_to-of}
use Rattle.rules.proofs.Distinct.{map_of}
use Rattle.rules.proofs.Joined.{map_last}
use Rattle.plain.specs.Cells.{cell_at, cells_before}

module _ (size : ℕ) (ws : List ℕ) where
  pub before_more : (c : ℕ) → cells_before size ws (c + 1) ≡ cells_before size ws c ++ (cell_at size ws c ∷ [])
  unfolding cells_before
  before_more c = map_last (cell_at size ws) c

  pub before-none : cells_before size ws 0 ≡ []
  unfolding cells_before up_to
  before-none = refl

  -- a cell below n lies within the words
  pub cell-fits : (c n : ℕ) → c < n → n * size ≤ length ws → c * size + size ≤ length ws
  cell-fits c n l f = let a = mul-le-mul_right {m = suc c} {n = n} size l in let b = suc-mul c size in omega arith

  pub cell-long : (c : ℕ) → c * size + size ≤ length ws → length (cell_at size ws c) ≡ size
  unfolding cell_at
  cell-long c f = rw (length-take, length-drop) (omega arith)

  -- word k of a cell
  pub cell-word : (c k : ℕ) → k < size → get_or ws (c * size + k) 0 ≡ get_or (cell_at size ws c) k 0
  unfolding cell_at
  cell-word c k l = sym (get_or-take size (drop (c * size) ws) k 0 l ∙ get_or-drop (c * size) ws k 0)

  -- one cell more
  module _ (p : List ℕ → Bool) (b : ℕ) (e : any_of p (cells_before size ws b) ≡ false) where
    pub any-before : p (cell_at size ws b) ≡ false → any_of p (cells_before size ws (b + 1)) ≡ false
    any-before h = rw (before_more b) (any_last p (cells_before size ws b) (cell_at size ws b) h ∙ e)

  pub found-before : (p : List ℕ → Bool) (b n : ℕ) → b < n → p (cell_at size ws b) ≡ true → any_of p (cells_before size ws n) ≡ true
  unfolding cells_before
  found-before p b n l h = any-of p (map_of (cell_at size ws) (up_to-of b n l)) h

  pub none_before : (p : List ℕ → Bool) → any_of p (cells_before size ws 0) ≡ false
  unfolding any_of
  none_before p = rw before-none
