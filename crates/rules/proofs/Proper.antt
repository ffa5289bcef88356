-- Proper masks: the sets of relations that a book of dimension D may hold. One key more, or one less that is not D→0, and a proper mask stays proper.
use mathlib.Core.Path.{◌≡◌, refl, sym, ◌∙◌}
use mathlib.Core.Bool.{true, false}
use mathlib.Core.Logic.{inl, inr}
use Prim.Native.Nat.{ℕ, ◌+◌, ◌-◌, ◌/◌, ◌%◌, ◌^◌, ◌≤◌, ◌<◌}
use native.Mathlib.Nat.{le_refl}
use native.Mathlib.Decide.{ℕ_discrete}
use native.Mathlib.Omega.{arith}
use Rattle.rules.specs.Lists.{all_of}
use Rattle.rules.specs.Book.{key, named, mentions, needs}
use Rattle.rules.proofs.Needs.{key-div, key-mod, Kind}
use Rattle.rules.proofs.Masks.{named-old, named-keeps, named-rest, named-less, mask-more, mask-again, one-new, one_only, one-small}
use Rattle.rules.proofs.Mentions.{mentions-key, needs-mention}

-- a mask that names dimensions up to D only, and D→0
pub record Proper (D mask : ℕ) : Type 0 where
  pub first : (k : ℕ) → named mask k ≡ true → k / 4 ≤ D
  pub second : (k : ℕ) → named mask k ≡ true → k % 4 ≤ D
  pub top : named mask (key D 0) ≡ true
  pub small : mask < 2 ^ 16

-- one key more
module _ (D mask d e : ℕ) (off : named mask (key d e) ≡ false) (h : D ≤ 3) (l : d ≤ D) (m : e ≤ D) where
  pub proper-more : Proper D mask → Proper D (mask + 2 ^ key d e)
  proper-more c = record {
    first = λ k t. elim (ℕ_discrete k (key d e)) [ yes i ↦ rw (i, key-div d e (omega arith)) l | no n ↦ c.first k (sym (named-old mask (key d e) off k n) ∙ t) ];
    second = λ k t. elim (ℕ_discrete k (key d e)) [ yes i ↦ rw (i, key-mod d e (omega arith)) m | no n ↦ c.second k (sym (named-old mask (key d e) off k n) ∙ t) ];
    top = named-keeps mask (key d e) off (key D 0) c.top;
    small = mask-more mask (key d e) off 16 (unfold key in omega arith) c.small;
  }

-- one key less
module _ (D mask k : ℕ) (on : named mask k ≡ true) (n : key D 0 ≡ k → ⊥) where
  left-named : (j : ℕ) → named (mask - 2 ^ k) j ≡ true → named mask j ≡ true
  left-named j h = rw (mask-again mask k on) at (named-keeps (mask - 2 ^ k) k (named-less mask k on) j h)

  pub proper-less : Proper D mask → Proper D (mask - 2 ^ k)
  proper-less c = record {
    first = λ j h. c.first j (left-named j h);
    second = λ j h. c.second j (left-named j h);
    top = named-rest mask k on (key D 0) n ∙ c.top;
    small = omega (arith, c.small);
  }

-- D→0 alone
pub proper-one : (D : ℕ) → 0 < D → D ≤ 3 → Proper D (2 ^ key D 0)
proper-one D p h = record {
  first = λ k h. rw (one_only (key D 0) k h, key-div D 0 (omega arith)) (le_refl D);
  second = λ k h. rw (one_only (key D 0) k h, key-mod D 0 (omega arith)) (omega arith);
  top = one-new (key D 0);
  small = one-small (key D 0) 16 (unfold key in omega arith);
}

-- a key that a proper mask names: its two dimensions are the mesh's, and they are named
module _ (D mask : ℕ) (h : D ≤ 3) (c : Proper D mask) where
  module _ (d e : ℕ) (l : e < 4) (n : named mask (key d e) ≡ true) where
    pub first_below : d ≤ D
    first_below = rw (key-div d e l) at (c.first (key d e) n)

    pub second_below : e ≤ D
    second_below = rw (key-mod d e l) at (c.second (key d e) n)

    pub first-mentioned : mentions (named mask) d ≡ true
    first-mentioned = mentions-key (named mask) d e d (omega (arith, first_below)) l n (inl refl)

    pub second-mentioned : mentions (named mask) e ≡ true
    second-mentioned = mentions-key (named mask) d e e (omega (arith, first_below)) l n (inr refl)

  -- what d→e is made from names both of its dimensions, but where d→e is d→0
  pub needs-mentioned : (d e : ℕ) → Kind d e → d ≤ D → e ≤ D → (e ≡ 0 → d ≡ 0) → all_of (named mask) (needs D d e) ≡ true
      → (0 < d → mentions (named mask) d ≡ true) × (0 < e → mentions (named mask) e ≡ true)
  needs-mentioned d e k a b z t = (
    λ p. needs-mention (named mask) D d e d k h a b p (inl refl) (λ x y. omega (arith, z x)) t,
    λ p. needs-mention (named mask) D d e e k h a b p (inr refl) (λ x y. omega arith) t,
  )
