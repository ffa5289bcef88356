-- Two masks with a key in common: that the two together by and are not 0 is that some key of the one is named by the other.
use mathlib.Core.Path.{◌≡◌, refl, sym, ap, ◌∙◌}
use mathlib.Core.Bool.{Bool, true, false, not, ◌&&◌, true≢false}
use Prim.Native.Nat.{ℕ, zero, suc, ◌/◌, ◌%◌, ◌^◌, ◌<◌}
use mathlib.Core.Logic.{inl, inr}
use native.Mathlib.Omega.{arith}
use lib.Bits.{bit_and, and_le_r, and_shr, and_mod}
use lib.Dec.{eqb}
use borrow.Author.Tests.{ne_eqb}
use Rattle.rules.specs.Lists.{up_to, any_of}
use Rattle.rules.specs.Book.{named}
use Rattle.rules.proofs.Tests.{cases, agree, none_of, any-is}
use Rattle.rules.proofs.Keep.{up_to-of, up_to-is}
use Rattle.rules.proofs.Masks.{none_named, masks-equal}

-- a key is named by both
pub named-both : (m n k : ℕ) → named (bit_and m n) k ≡ (named m k && named n k)
unfolding named
named-both m n k =
    ap (λ (x : ℕ). eqb x 1) (ap (λ (y : ℕ). y % 2) (and_shr m n k) ∙ and_mod (m / 2 ^ k) (n / 2 ^ k) 1)
    ∙ go (m / 2 ^ k % 2) (n / 2 ^ k % 2) (omega arith) (omega arith)
  where
    go : (a b : ℕ) → a < 2 → b < 2 → eqb (bit_and a b) 1 ≡ (eqb a 1 && eqb b 1)
    go zero b p q = refl
    go (suc zero) zero p q = refl
    go (suc zero) (suc zero) p q = refl
    go (suc zero) (suc (suc b)) p q = absurd (omega arith)
    go (suc (suc a)) b p q = absurd (omega arith)

module _ (m n : ℕ) (t : ℕ → Bool) (small : n < 2 ^ 16) (names : (k : ℕ) → k < 16 → named n k ≡ t k) where
  pub shared : not (eqb (bit_and m n) 0) ≡ any_of (λ k. named m k && t k) (up_to 16)
  shared = agree (not (eqb (bit_and m n) 0)) (any_of (λ k. named m k && t k) (up_to 16)) some both
    where
      each : (k : ℕ) → k < 16 → named (bit_and m n) k ≡ (named m k && t k)
      each k l = named-both m n k ∙ ap (λ (b : Bool). named m k && b) (names k l)

      none : any_of (λ k. named m k && t k) (up_to 16) ≡ false → bit_and m n ≡ 0
      none h =
          masks-equal 16 (bit_and m n) 0 (omega (arith, and_le_r m n)) (omega arith)
          (λ k l. each k l ∙ none_of (λ j. named m j && t j) h (up_to-of k 16 l) ∙ sym (none_named k))

      some : not (eqb (bit_and m n) 0) ≡ true → any_of (λ k. named m k && t k) (up_to 16) ≡ true
      some h = elim (cases (any_of (λ k. named m k && t k) (up_to 16))) [
        | inl e ↦ e
        | inr e ↦ absurd (true≢false (sym h ∙ rw (none e)))
      ]

      both : any_of (λ k. named m k && t k) (up_to 16) ≡ true → not (eqb (bit_and m n) 0) ≡ true
      both h =
          let (k, i, q) = any-is (λ j. named m j && t j) (up_to 16) h in
          let on : named (bit_and m n) k ≡ true = each k (up_to-is k 16 i) ∙ q in
          rw (ne_eqb (bit_and m n) 0 (λ z. true≢false (sym on ∙ ap (λ (x : ℕ). named x k) z ∙ none_named k)))
