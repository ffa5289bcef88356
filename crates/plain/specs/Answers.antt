-- The part of the plain engine's answer that a mesh decides.
use Rattle.std.specs.Prelude.{Bool, false, cond, [], ◌∷◌, ℕ, eqb, leb}
use Rattle.rules.specs.Calls.{rule, first_broken}
use Rattle.rules.specs.Truth.{Mesh, number, incident}

-- the refusals that a mesh decides: 17 if there is no entity (d, i), else 19 if there is no entity (e, j), else 0
unfoldable pub by_counts : Mesh → ℕ → ℕ → ℕ → ℕ → ℕ
by_counts m d e i j = first_broken (rule (leb (number m d) i) 17 ∷ rule (leb (number m e) j) 19 ∷ []) 0

-- whether (e, j) is incident to (d, i), no on one of these refusals
unfoldable pub said_of : Mesh → ℕ → ℕ → ℕ → ℕ → Bool
said_of m d e i j = cond (eqb (by_counts m d e i j) 0) (incident m d e i j) false
