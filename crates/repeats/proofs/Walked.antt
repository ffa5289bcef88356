-- Entries in chains, each with a row: whether a row is among the first of them, and the walk along a chain that looks for it.
use mathlib.Core.Path.{◌≡◌, refl, sym, ◌∙◌}
use mathlib.Core.Bool.{Bool, true, false}
use mathlib.Core.Logic.{inl, inr}
use mathlib.Core.List.Memᴰ
use mathlib.Core.List.Memᴰ.{head as here}
use mathlib.Core.List.{List, [], ◌∷◌, ◌++◌, map}
use Prim.Native.Nat.{ℕ, zero, suc, ◌+◌, ◌-◌, ◌≤◌, ◌<◌}
use native.Mathlib.Nat.{eq-or-lt_of_le}
use native.Mathlib.Numerals.{add-one}
use native.Mathlib.Omega.{arith}
use lib.ListN.{get_or}
use Rattle.rules.specs.Lists.{up_to, any_of, same}
use Rattle.rules.specs.Chains.{Newest, Links}
use Rattle.rules.proofs.Tests.{cases, any-of, any_last}
use Rattle.rules.proofs.Joined.{map_last}

-- one more at the end that passes the test
any-with {ℓ} : {A : Type ℓ} (p : A → Bool) (x : A) → p x ≡ true → (xs : List A) → any_of p (xs ++ (x ∷ [])) ≡ true
any-with p x e xs = any-of p (Memᴰ.append_right xs (here refl)) e

-- the row s among the first n rows
abbrev pub among : (ℕ → List ℕ) → List ℕ → ℕ → Bool
among row s n = any_of (same s) (map row (up_to n))

-- only entries of bucket v have the row s
abbrev pub Only : (ℕ → ℕ) → ℕ → (ℕ → List ℕ) → List ℕ → Type 0
Only b v row s = (i : ℕ) → same s (row i) ≡ true → b i ≡ v

module _ (row : ℕ → List ℕ) (s : List ℕ) where
  among-found : (n : ℕ) → same s (row n) ≡ true → among row s (n + 1) ≡ true
  among-found n h = rw (map_last row n) (any-with (same s) (row n) h (map row (up_to n)))

  among-passed : (n : ℕ) → same s (row n) ≡ false → among row s (n + 1) ≡ among row s n
  among-passed n h = rw (map_last row n) (any_last (same s) (map row (up_to n)) (row n) h)

  module _ {b : ℕ → ℕ} {v : ℕ} (o : Only b v row s) where
    -- an entry of another bucket has another row
    other : (i : ℕ) → (b i ≡ v → ⊥) → same s (row i) ≡ false
    other i f = elim (cases (same s (row i))) [ inl e ↦ absurd (f (o i e)) | inr e ↦ e ]

    skipped : (p m : ℕ) → p ≤ m → ((i : ℕ) → p ≤ i → i < m → b i ≡ v → ⊥) → among row s m ≡ among row s p
    skipped p zero l f = let e : p ≡ 0 = omega arith in rw e
    skipped p (suc m) l f =
        elim (eq-or-lt_of_le l) [
          | inl e ↦ rw e
          | inr h ↦
              rw (← add-one m)
              (among-passed m (other m (f m (omega arith) (omega arith))) ∙ skipped p m (omega arith) (λ i a b. f i a (omega arith)))
        ]

    -- s among all is s among those up to the newest of its bucket
    pub among-newest : {m p : ℕ} → Newest b v m p → among row s m ≡ among row s p
    among-newest {m} {p} w = skipped p m w.within w.none

-- the walk for the row s along the chain of bucket v, that began with `from` and stands at p
pub record Walking (b : ℕ → ℕ) (v : ℕ) (row : ℕ → List ℕ) (s : List ℕ) (from p : ℕ) : Type 0 where
  pub high : p ≤ from
  pub own : (i : ℕ) → p ≡ suc i → b i ≡ v
  pub left : among row s p ≡ among row s from

module _ {b : ℕ → ℕ} {v : ℕ} {row : ℕ → List ℕ} {s : List ℕ} {from p : ℕ} (w : Walking b v row s from p) where
  pub walk_end : p ≤ 0 → false ≡ among row s from
  unfolding any_of up_to
  walk_end l = let e : p ≡ 0 = omega arith in rw e at w.left

  module _ (l : 0 < p) where
    pub walk-found : same s (row (p - 1)) ≡ true → true ≡ among row s from
    walk-found h = let e : p - 1 + 1 ≡ p = omega arith in sym (rw e at (among-found row s (p - 1) h)) ∙ w.left

    pub walk-on : {room : ℕ} {next : List ℕ} → Links b room next from → Only b v row s → same s (row (p - 1)) ≡ false → Walking b v row s from (get_or next (p - 1) 0)
    walk-on {next = next} k o h =
        let e : p - 1 + 1 ≡ p = omega arith in
        let n : Newest b v (p - 1) (get_or next (p - 1) 0) = rw (w.own (p - 1) (omega arith)) at (k.older (p - 1) (omega (arith, w.high))) in
        record {
          high = omega (arith, n.within, w.high);
          own = n.own;
          left = sym (among-newest row s o n) ∙ sym (rw e at (among-passed row s (p - 1) h)) ∙ w.left;
        }
