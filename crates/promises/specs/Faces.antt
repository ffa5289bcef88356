-- Document 02, "Phase closures", on a book as in demand 3: what an accepted call has written for a face, for its edges, and for the faces of a tetrahedron.
use Rattle.std.specs.Prelude.{◌≡◌, ◌⊎◌, true, false, ℕ, ◌<◌, length, get_or, ℤ, pos, ◌+ℤ◌, ◌-ℤ◌, Float}
use mathlib.Core.List.{List, [], ◌∷◌, Memᴰ as In}
use Rattle.rules.specs.Lists.{has, choose}
use Rattle.rules.specs.Book.{key, held, count, row_of}
use Rattle.rules.specs.Truth.{Mesh}
use Rattle.rules.specs.Sequence.{Reached}
use Rattle.rules.specs.Phases.{masked, turns}
use Rattle.rules.specs.Closures.{edge_step, edge_byte, face_closure, close_number, closures_after, steps_after, bytes_after}

-- ==== a face and its edges
-- edge j is in row i of 2→1, its vertices are p and q, and what the lists have for it is the step between them
pub record EdgeOf (ws : List ℕ) (counts : List ℤ) (steps : List Float) (bytes : List ℕ) (i p q j : ℕ) : Type 0 where
  pub below : j < count ws 1
  pub listed : has j (row_of ws (key 2 1) i) ≡ true
  pub ends : row_of ws (key 1 0) j ≡ p ∷ q ∷ []
  pub step : get_or steps j (turns (pos 0)) ≡ edge_step counts (p ∷ q ∷ [])
  pub byte : get_or bytes j 0 ≡ edge_byte counts (p ∷ q ∷ [])

-- the edges in row i of 2→1 are the sides of a < b < c: each of the three, and no other
pub record EdgesOf (ws : List ℕ) (counts : List ℤ) (steps : List Float) (bytes : List ℕ) (i a b c : ℕ) : Type 0 where
  pub first : (j : ℕ) × EdgeOf ws counts steps bytes i a b j
  pub second : (j : ℕ) × EdgeOf ws counts steps bytes i b c j
  pub third : (j : ℕ) × EdgeOf ws counts steps bytes i a c j
  pub only : (j : ℕ) → has j (row_of ws (key 2 1) i) ≡ true → EdgeOf ws counts steps bytes i a b j ⊎ (EdgeOf ws counts steps bytes i b c j ⊎ EdgeOf ws counts steps bytes i a c j)

-- a face's closure is that of its row of 2→0, and the steps in it are those written for the edges in its row of 2→1
abbrev pub StepsAgree : Type 0
StepsAgree = (m : Mesh) (ws : List ℕ) → Reached m ws
    → (counts closures : List ℤ) (steps : List Float) (bytes : List ℕ) → close_number ws counts (length closures) (length steps) (length bytes) ≡ 0
    → (i a b c : ℕ) → i < count ws 2 → row_of ws (key 2 0) i ≡ a ∷ b ∷ c ∷ []
    → (get_or (closures_after ws counts closures steps bytes) i (pos 0) ≡ face_closure counts (a ∷ b ∷ c ∷ []))
    × (held ws (key 2 1) ≡ true → EdgesOf ws counts (steps_after ws counts closures steps bytes) (bytes_after ws counts closures steps bytes) i a b c)

-- two faces with a common edge have one step for it: the edge is a side of both, and its step is written once
abbrev pub OneStep : Type 0
OneStep = (m : Mesh) (ws : List ℕ) → Reached m ws
    → (counts closures : List ℤ) (steps : List Float) (bytes : List ℕ) → close_number ws counts (length closures) (length steps) (length bytes) ≡ 0
    → held ws (key 2 1) ≡ true → (i k j : ℕ) → i < count ws 2 → k < count ws 2 → has j (row_of ws (key 2 1) i) ≡ true → has j (row_of ws (key 2 1) k) ≡ true
    → (p : ℕ) × (q : ℕ) × In (p ∷ q ∷ []) (choose 2 (row_of ws (key 2 0) i)) × In (p ∷ q ∷ []) (choose 2 (row_of ws (key 2 0) k))
    × (get_or (steps_after ws counts closures steps bytes) j (turns (pos 0)) ≡ edge_step counts (p ∷ q ∷ []))

-- ==== a tetrahedron and its faces
-- face f has the vertices p, q and r, and is in row i of 3→2 where that is held
pub record FaceOf (ws : List ℕ) (i p q r f : ℕ) : Type 0 where
  pub below : f < count ws 2
  pub corners : row_of ws (key 2 0) f ≡ p ∷ q ∷ r ∷ []
  pub listed : held ws (key 3 2) ≡ true → has f (row_of ws (key 3 2) i) ≡ true

-- the four faces of tetrahedron i, a < b < c < d, and their closures, which cancel
pub record Cancelled (ws : List ℕ) (closures : List ℤ) (i a b c d : ℕ) : Type 0 where
  pub bcd : ℕ
  pub acd : ℕ
  pub abd : ℕ
  pub abc : ℕ
  pub without_a : FaceOf ws i b c d bcd
  pub without_b : FaceOf ws i a c d acd
  pub without_c : FaceOf ws i a b d abd
  pub without_d : FaceOf ws i a b c abc
  pub none : get_or closures bcd (pos 0) -ℤ get_or closures acd (pos 0) +ℤ get_or closures abd (pos 0) -ℤ get_or closures abc (pos 0) ≡ pos 0

-- in a tetrahedron with no masked vertex the closures that are written for its faces cancel, so a slip in one face is seen in another
abbrev pub FacesCancel : Type 0
FacesCancel = (m : Mesh) (ws : List ℕ) → Reached m ws
    → (counts closures : List ℤ) (steps : List Float) (bytes : List ℕ) → close_number ws counts (length closures) (length steps) (length bytes) ≡ 0
    → m.dims ≡ 3 → (i a b c d : ℕ) → i < count ws 3 → row_of ws (key 3 0) i ≡ a ∷ b ∷ c ∷ d ∷ []
    → masked (get_or counts a (pos 0)) ≡ false → masked (get_or counts b (pos 0)) ≡ false → masked (get_or counts c (pos 0)) ≡ false → masked (get_or counts d (pos 0)) ≡ false
    → Cancelled ws (closures_after ws counts closures steps bytes) i a b c d
