-- How many words are each vertex, counted word by word.
use mathlib.Core.Path.{◌≡◌, ap, ◌∙◌}
use mathlib.Core.Logic.{◌⊎◌, inl, inr}
use mathlib.Core.Bool.{cond}
use mathlib.Core.List.{List, [], ◌∷◌, ◌++◌, append-nil}
use Prim.Native.Nat.{ℕ, ◌+◌, ◌≤◌, ◌<◌}
use native.Mathlib.Numerals.{add-one}
use native.Mathlib.Omega.{arith}
use lib.ListN.{length, get_or, take, set, replicate, length-set, length-take, length-append}
use lib.Seq.{take-suc, get_or-set_same, get_or-set_other}
use lib.Dec.{eqb}
use borrow.Author.Tests.{eq-eqb, ne_eqb}
use Rattle.rules.specs.Lists.{keep}
use Rattle.rules.proofs.Compared.{same_or_not}
use Rattle.rules.proofs.First.{keep_append}
use Rattle.rules.proofs.Keep.{keep-short}
use Rattle.rules.proofs.RightBook.{get_or-zeros}

-- the words before place p are counted
pub record Counted (ws many : List ℕ) (p : ℕ) : Type 0 where
  pub long : length many ≡ 8192
  pub number : (v : ℕ) → v < 8192 → get_or many v 0 ≡ length (keep (eqb v) (take p ws))

pub counted_none : (ws many : List ℕ) → many ≡ replicate 8192 0 → length many ≡ 8192 → Counted ws many 0
unfolding keep
counted_none ws many e l = record { long = l; number = λ v m. ap (λ (xs : List ℕ). get_or xs v 0) e ∙ get_or-zeros 8192 v }

module _ {ws many : List ℕ} {p : ℕ} (k : Counted ws many p) (l : p < length ws) (small : get_or ws p 0 < 8192) where
  pub few : get_or many (get_or ws p 0) 0 ≤ p
  few = rw (k.number (get_or ws p 0) small) (omega (arith, keep-short (eqb (get_or ws p 0)) (take p ws), length-take p ws))

  next : (v : ℕ) → keep (eqb v) (take (p + 1) ws) ≡ keep (eqb v) (take p ws) ++ cond (eqb v (get_or ws p 0)) (get_or ws p 0 ∷ []) []
  unfolding keep
  next v = rw (add-one, take-suc ws p 0 l) (keep_append (eqb v) (take p ws) (get_or ws p 0 ∷ []))

  more : (v : ℕ) → v < 8192 → (v ≡ get_or ws p 0) ⊎ (v ≡ get_or ws p 0 → ⊥) → get_or (set many (get_or ws p 0) (get_or many (get_or ws p 0) 0 + 1)) v 0 ≡ length (keep (eqb v) (take (p + 1) ws))
  more v m (inl e) =
      rw (next v, eq-eqb v (get_or ws p 0) e, length-append)
      (rw e (get_or-set_same many (get_or ws p 0) (get_or many (get_or ws p 0) 0 + 1) 0 (rw k.long small) ∙ rw (k.number (get_or ws p 0) small)))
  more v m (inr n) = rw (next v, ne_eqb v (get_or ws p 0) n, append-nil) (get_or-set_other many (get_or ws p 0) v (get_or many (get_or ws p 0) 0 + 1) 0 n ∙ k.number v m)

  pub counted-more : Counted ws (set many (get_or ws p 0) (get_or many (get_or ws p 0) 0 + 1)) (p + 1)
  counted-more = record {
    long = length-set many (get_or ws p 0) (get_or many (get_or ws p 0) 0 + 1) ∙ k.long;
    number = λ v m. more v m (same_or_not v (get_or ws p 0));
  }

-- ---- the member with the fewest uses among the first k
module _ (many set : List ℕ) where
  -- how many uses member j has
  abbrev used : ℕ → ℕ
  used j = get_or many (get_or set j 0) 0

  abbrev pub Fewest : ℕ → ℕ → Type 0
  Fewest best k = (j : ℕ) → j < k → used best ≤ used j

  module _ (best k : ℕ) (f : Fewest best k) where
    pub fewer : used k < used best → Fewest k (k + 1)
    fewer l j m = elim (same_or_not j k) [ inl e ↦ rw e (omega arith) | inr n ↦ omega (arith, f j (omega arith)) ]
