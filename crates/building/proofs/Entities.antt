-- The entities as a list: one more at the end, and which of them a candidate can be.
use mathlib.Core.Path.{◌≡◌, refl, sym, ap, ◌∙◌}
use mathlib.Core.Bool.{Bool, true, false, ◌&&◌}
use mathlib.Core.Logic.{inl, inr}
use mathlib.Core.List.{List, [], ◌∷◌, ◌++◌}
use Prim.Native.Nat.{ℕ, ◌+◌, ◌*◌, ◌<◌}
use native.Mathlib.Omega.{arith}
use borrow.Author.Tests.{eq-eqb}
use lib.Dec.{eqb}
use lib.ListN.{length, get_or}
use Rattle.rules.specs.Lists.{up_to, same}
use Rattle.rules.proofs.Tests.{cases, same-is}
use Rattle.rules.proofs.Numbered.{length-rows, rows_agree, get_d_map, length-up_to, get_or-up_to}
use Rattle.rules.proofs.Joined.{map_last}
use Rattle.repeats.proofs.Walked.{Only}
use Rattle.building.specs.Sets.{entity, entities, lowest}

pub entities-none : (sets : List ℕ) → entities sets 0 ≡ []
unfolding entities up_to
entities-none sets = refl

pub entities-more : (sets : List ℕ) (n : ℕ) → entities sets (n + 1) ≡ entities sets n ++ (entity sets n ∷ [])
unfolding entities
entities-more sets n = map_last (entity sets) n

pub entities-length : (sets : List ℕ) (n : ℕ) → length (entities sets n) ≡ n
unfolding entities
entities-length sets n = length-rows (entity sets) n

-- the entities as a list, one by one
module _ (sets : List ℕ) (n : ℕ) (es : List (List ℕ)) (e : entities sets n ≡ es) where
  pub held-length : length es ≡ n
  held-length = sym (ap length e) ∙ entities-length sets n

  pub held-at : (i : ℕ) → i < n → get_or es i [] ≡ entity sets i
  unfolding entities
  held-at i l =
      sym (ap (λ (xs : List (List ℕ)). get_or xs i []) e)
      ∙ get_d_map (entity sets) (up_to n) i 0 [] (omega (arith, length-up_to n))
      ∙ ap (entity sets) (get_or-up_to n i 0 l)

-- words that are alike below 3n have the same n entities
pub entities-front : (xs ys : List ℕ) (n : ℕ) → ((j : ℕ) → j < 3 * n → get_or ys j 0 ≡ get_or xs j 0) → entities ys n ≡ entities xs n
unfolding entities entity
entities-front xs ys n f =
    rows_agree (entity ys) (entity xs) n
    (λ i h. rw (f (3 * i) (omega arith), f (3 * i + 1) (omega arith), f (3 * i + 2) (omega arith)))

-- sets that differ at some place are different
pub same-other : (s t : List ℕ) (k : ℕ) → (get_or s k 0 ≡ get_or t k 0 → ⊥) → same s t ≡ false
same-other s t k f = elim (cases (same s t)) [ inl e ↦ absurd (f (ap (λ (l : List ℕ). get_or l k 0) (same-is s t e))) | inr e ↦ e ]

and-true : (b : Bool) → b ≡ (b && true)
and-true true = refl
and-true false = refl

-- of three places the last decides
pub same-third : (s : List ℕ) → length s ≡ 3 → (x y z : ℕ) → get_or s 0 0 ≡ x → get_or s 1 0 ≡ y → eqb (get_or s 2 0) z ≡ same s (x ∷ y ∷ z ∷ [])
unfolding same
same-third [] e x y z p q = absurd (omega arith)
same-third (a ∷ []) e x y z p q = absurd (omega arith)
same-third (a ∷ b ∷ []) e x y z p q = absurd (omega arith)
same-third (a ∷ b ∷ c ∷ []) e x y z p q = rw (eq-eqb a x p, eq-eqb b y q) (and-true (eqb c z))
same-third (a ∷ b ∷ c ∷ d ∷ t) e x y z p q = absurd (omega arith)

-- an entity that is the candidate has its lowest vertex
pub entity-only : (sets s : List ℕ) → Only (lowest sets) (get_or s 0 0) (entity sets) s
unfolding entity
entity-only sets s i e = ap (λ (l : List ℕ). get_or l 0 0) (sym (same-is s (entity sets i) e))
