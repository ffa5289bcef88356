-- The invariant: the vertices passed have their places.
use mathlib.Core.Path.{◌≡◌}
use mathlib.Core.List.{List}
use Prim.Native.Nat.{ℕ, ◌<◌}
use lib.ListN.{get_or}
use Rattle.sheets.proofs.rims.number.Given as goal

-- the first n vertices have their places
abbrev pub Placed : List ℕ → ℕ → List ℕ → Type 0
Placed vertices n numbers = (j : ℕ) → j < n → get_or numbers (get_or vertices j 0) 0 ≡ j

abbrev pub invariant-loop-i : goal.invariant-loop-i
invariant-loop-i l = Placed l.vertices l.i l.numbers
