-- What comes with the number of the sheet profile: why and which with 28, and what it gives where it accepts.
use mathlib.Core.Path.{◌≡◌, refl, ap}
use mathlib.Core.List.{List, [], ◌∷◌}
use Prim.Native.Nat.{ℕ}
use lib.ListN.{length, get_or}
use Rattle.rules.specs.Sheet.{rim_edges_of, rim_vertices_of, rim_length_of, sheet_answer, sheet_number, sheet_given}
use Rattle.sheets.specs.declared.answers.Rim.{Rim}

module _ (ws : List ℕ) (acrosses bytes vertices edges : ℕ) where
  -- the number of an answer
  pub number-told : (a : List ℕ) → a ≡ sheet_answer ws acrosses bytes vertices edges → get_or a 0 0 ≡ sheet_number ws acrosses bytes vertices edges
  unfolding sheet_number
  number-told a e = ap (λ (ns : List ℕ). get_or ns 0 0) e

  -- what comes with it at place k, or what was there
  pub carried-told : (a : List ℕ) → a ≡ sheet_answer ws acrosses bytes vertices edges → (k old : ℕ) → get_or a k old ≡ get_or (sheet_answer ws acrosses bytes vertices edges) k old
  carried-told a e k old = ap (λ (ns : List ℕ). get_or ns k old) e

  -- where it accepts, the three numbers of the rim
  pub rim-given : (r : Rim) → 0 ≡ sheet_number ws acrosses bytes vertices edges → r.length ∷ r.vertices ∷ r.edges ∷ [] ≡ sheet_given ws acrosses bytes vertices edges
      → (r.length ≡ rim_length_of ws) × (r.vertices ≡ length (rim_vertices_of ws)) × (r.edges ≡ length (rim_edges_of ws))
  unfolding sheet_given
  rim-given r e g = (number 0, number 1, number 2)
    where
      numbers : r.length ∷ r.vertices ∷ r.edges ∷ [] ≡ rim_length_of ws ∷ length (rim_vertices_of ws) ∷ length (rim_edges_of ws) ∷ []
      numbers = rw (← e) at g

      number : (k : ℕ) → get_or (r.length ∷ r.vertices ∷ r.edges ∷ []) k 0 ≡ get_or (rim_length_of ws ∷ length (rim_vertices_of ws) ∷ length (rim_edges_of ws) ∷ []) k 0
      number k = ap (λ (ns : List ℕ). get_or ns k 0) numbers
