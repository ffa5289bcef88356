-- Which dimensions the keys of a set name: with a key come both of its dimensions, and what d→e is made from names all that d→e names, but where it is x→0.
use mathlib.Core.Path.{◌≡◌, refl, sym, ap, ◌∙◌}
use mathlib.Core.Bool.{Bool, true, ◌&&◌, ◌||◌}
use mathlib.Core.Logic.{◌⊎◌, inl, inr}
use Prim.Native.Nat.{ℕ, ◌/◌, ◌%◌, ◌≤◌, ◌<◌}
use native.Mathlib.Decide.{ℕ_discrete}
use native.Mathlib.Omega.{arith}
use lib.Dec.{eqb}
use borrow.Author.Tests.{eqb-true, eq-eqb}
use Rattle.rules.specs.Lists.{up_to, all_of}
use Rattle.rules.specs.Book.{key, mentions, needs}
use Rattle.rules.proofs.Tests.{agree, left, right, or_cases, or_right, any-of, any-is}
use Rattle.rules.proofs.Keep.{up_to-of, up_to-is}
use Rattle.rules.proofs.Needs.{key-div, key-mod, Kind, set, up, down, level, points, kind, needs-up, needs-down, needs-across}

-- k names x
abbrev pub Names : ℕ → ℕ → Type 0
Names k x = (k / 4 ≡ x) ⊎ (k % 4 ≡ x)

names_of : (k x : ℕ) → Names k x → (eqb (k / 4) x || eqb (k % 4) x) ≡ true
names_of k x (inl p) = rw (eq-eqb (k / 4) x p)
names_of k x (inr p) = or_right (eqb (k / 4) x) (eqb (k % 4) x) (eq-eqb (k % 4) x p)

names-is : (k x : ℕ) → (eqb (k / 4) x || eqb (k % 4) x) ≡ true → Names k x
names-is k x h = elim (or_cases (eqb (k / 4) x) (eqb (k % 4) x) h) [ inl p ↦ inl (eqb-true (k / 4) x p) | inr p ↦ inr (eqb-true (k % 4) x p) ]

module _ (h : ℕ → Bool) where
  pub mentions-of : (k x : ℕ) → k < 16 → h k ≡ true → Names k x → mentions h x ≡ true
  unfolding mentions
  mentions-of k x l t n = any-of (λ j. h j && (eqb (j / 4) x || eqb (j % 4) x)) (up_to-of k 16 l) (rw (t, names_of k x n))

  pub mentions-is : (x : ℕ) → mentions h x ≡ true → (k : ℕ) × (k < 16) × (h k ≡ true) × Names k x
  unfolding mentions
  mentions-is x m =
      let (k, i, t) = any-is (λ j. h j && (eqb (j / 4) x || eqb (j % 4) x)) (up_to 16) m in
      (k, up_to-is k 16 i, left _ _ t, names-is k x (right (h k) _ t))

  pub mentions-key : (d e x : ℕ) → d < 4 → e < 4 → h (key d e) ≡ true → (d ≡ x) ⊎ (e ≡ x) → mentions h x ≡ true
  mentions-key d e x a b t n = mentions-of (key d e) x (unfold key in omega arith) t (go n)
    where
      go : (d ≡ x) ⊎ (e ≡ x) → Names (key d e) x
      go (inl p) = inl (key-div d e b ∙ p)
      go (inr p) = inr (key-mod d e b ∙ p)

-- a larger set names more
pub mentions-more : (h g : ℕ → Bool) → ((k : ℕ) → h k ≡ true → g k ≡ true) → (x : ℕ) → mentions h x ≡ true → mentions g x ≡ true
mentions-more h g e x m = let (k, l, t, n) = mentions-is h x m in mentions-of g k x l (e k t) n

-- what d→e is made from names both of its dimensions, but where it is x→0
pub needs-mention : (h : ℕ → Bool) (D d e x : ℕ) → Kind d e → D ≤ 3 → d ≤ D → e ≤ D → 0 < x → (d ≡ x) ⊎ (e ≡ x) → (e ≡ 0 → d ≡ x → ⊥)
    → all_of h (needs D d e) ≡ true → mentions h x ≡ true
unfolding all_of
needs-mention h D d e x (set p) hi a b q (inl n) o t = absurd (o refl n)
needs-mention h D d e x (set p) hi a b q (inr n) o t = absurd (omega arith)
needs-mention h D d e x (up p) hi a b q n o t =
    let u : h (key e d) ≡ true = left _ true (rw (needs-up D d e p) at t) in
    mentions-key h e d x (omega arith) (omega arith) u (elim n [ inl i ↦ inr i | inr i ↦ inl i ])
needs-mention h D d e x (down p r) hi a b q (inl n) o t =
    let u = rw (needs-down D d e p r) at t in mentions-key h d 0 x (omega arith) (omega arith) (left (h (key d 0)) _ u) (inl n)
needs-mention h D d e x (down p r) hi a b q (inr n) o t =
    let u = rw (needs-down D d e p r) at t in
    let v : h (key e 0) ≡ true = left (h (key e 0)) true (right (h (key 0 e)) _ (right (h (key d 0)) _ u)) in
    mentions-key h e 0 x (omega arith) (omega arith) v (inl n)
needs-mention h D d e x (level p) hi a b q n o t =
    let u = rw (needs-across D d p) at t in
    mentions-key h d 0 x (omega arith) (omega arith) (left (h (key d 0)) _ u) (elim n [ inl i ↦ inl i | inr i ↦ inl i ])
needs-mention h D d e x points hi a b q (inl n) o t = absurd (omega arith)
needs-mention h D d e x points hi a b q (inr n) o t = absurd (omega arith)

-- so with d→e made, no dimension is named that was not, but d by d→0
pub mentions-after : (h g : ℕ → Bool) (D d e x : ℕ) → D ≤ 3 → d ≤ D → e ≤ D → 0 < x → (e ≡ 0 → d ≡ x → ⊥) → all_of h (needs D d e) ≡ true
    → ((j : ℕ) → (j ≡ key d e → ⊥) → g j ≡ h j) → ((j : ℕ) → h j ≡ true → g j ≡ true) → mentions g x ≡ mentions h x
mentions-after h g D d e x hi a b p o t old more = agree (mentions g x) (mentions h x) back (mentions-more h g more x)
  where
    back : mentions g x ≡ true → mentions h x ≡ true
    back m =
        let (k, l, u, n) = mentions-is g x m in
        elim (ℕ_discrete k (key d e)) [
          | yes i ↦ needs-mention h D d e x (kind d e) hi a b p (both k i n) o t
          | no i ↦ mentions-of h k x l (sym (old k i) ∙ u) n
        ]
      where
        both : (k : ℕ) → k ≡ key d e → Names k x → (d ≡ x) ⊎ (e ≡ x)
        both k i (inl q) = inl (sym (key-div d e (omega arith)) ∙ ap (λ (y : ℕ). y / 4) (sym i) ∙ q)
        both k i (inr q) = inr (sym (key-mod d e (omega arith)) ∙ ap (λ (y : ℕ). y % 4) (sym i) ∙ q)
