-- Parts of words.
use mathlib.Core.Path.{◌≡◌, refl}
use mathlib.Core.List.{List, [], ◌∷◌}
use Prim.Native.Nat.{ℕ, zero, suc, ◌+◌, ◌≤◌}
use native.Mathlib.Omega.{arith}
use lib.ListN.{take, drop}
use lib.Seq.{take-take}

-- a part of the words' front
pub front-part : (s m t : ℕ) (zs : List ℕ) → s + m ≤ t → take m (drop s (take t zs)) ≡ take m (drop s zs)
front-part zero m t zs l = take-take m t zs (omega arith)
front-part (suc s) m zero zs l = absurd (omega arith)
front-part (suc s) m (suc t) [] l = refl
front-part (suc s) m (suc t) (z ∷ zs) l = front-part s m t zs (omega arith)
