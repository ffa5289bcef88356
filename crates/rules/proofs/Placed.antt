-- A list filled from the front, place by place, of whatever members: below i it is as f says, and in the end it is all that f says.
use mathlib.Core.Path.{◌≡◌, sym, ◌∙◌, subst}
use mathlib.Core.Logic.{inl, inr}
use mathlib.Core.List.{List, map}
use Prim.Native.Nat.{ℕ, ◌+◌, ◌<◌, ◌≤◌}
use native.Mathlib.Nat.{ne_of_lt}
use native.Mathlib.Numerals.{add-one}
use native.Mathlib.Omega.{arith}
use lib.ListN.{length, get_or, set, length-set}
use lib.Seq.{get_or-set_same, get_or-set_other, ext_get_or}
use Rattle.rules.specs.Lists.{up_to}
use Rattle.rules.proofs.Numbered.{length-rows, get_d_rows, last-or-below}

pub record Placed {ℓ} {A : Type ℓ} (f : ℕ → A) (d : A) (n i : ℕ) (xs : List A) : Type ℓ where
  pub size : length xs ≡ n
  pub done : (k : ℕ) → k < i → get_or xs k d ≡ f k

module _ {ℓ} {A : Type ℓ} (f : ℕ → A) (d : A) (n : ℕ) where
  pub placed-none : (xs : List A) → length xs ≡ n → Placed f d n 0 xs
  placed-none xs e = record { size = e; done = λ k h. absurd (omega arith) }

  pub placed-more : (i : ℕ) (xs : List A) (x : A) → Placed f d n i xs → i < n → x ≡ f i → Placed f d n (i + 1) (set xs i x)
  placed-more i xs x h l e = record {
    size = length-set xs i x ∙ h.size;
    done = λ k m. elim (last-or-below k i (subst (λ (j : ℕ). k < j) (add-one i) m)) [
      | inl p ↦ rw p (get_or-set_same xs i x d (subst (λ (j : ℕ). i < j) (sym h.size) l) ∙ e)
      | inr p ↦ get_or-set_other xs i k x d (ne_of_lt p) ∙ h.done k p
    ];
  }

  pub placed-all : (i : ℕ) (xs : List A) → Placed f d n i xs → n ≤ i → xs ≡ map f (up_to n)
  placed-all i xs h l =
      ext_get_or d xs (map f (up_to n)) (h.size ∙ sym (length-rows f n))
      (λ k m. let b : k < n = subst (λ (j : ℕ). k < j) h.size m in h.done k (omega arith) ∙ sym (get_d_rows f n k d b))
