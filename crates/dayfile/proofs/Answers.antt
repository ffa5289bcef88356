-- A fault and its number: what `fault_of` gives has the file's number, and its cell.
use mathlib.Core.Path.{◌≡◌, refl, sym, ap, ◌∙◌}
use mathlib.Core.Bool.{Bool, true, false, cond, ◌||◌, false≢true}
use mathlib.Core.Logic.{◌⊎◌, inl, inr}
use mathlib.Core.List.{List, [], ◌∷◌}
use Prim.Native.Nat.{ℕ, zero, suc, ◌≤◌}
use native.Mathlib.Omega.{arith}
use lib.Dec.{eqb, leb}
use borrow.Author.Tests.{leb-true, eqb-true, ne_eqb}
use Rattle.rules.specs.Lists.{all_of}
use Rattle.rules.specs.Calls.{Rule, first_broken, file_rules, file_number, fault_cell}
use Rattle.rules.proofs.Tests.{cases, left, right, or_cases}
use Rattle.std.specs.Prelude.{Result, Err}
use Rattle.kinds.specs.declared.refusals.Refusal.{Refusal}
use Rattle.kinds.proofs.Determined.{answers-alike, low, low-place, low-why}
use Rattle.kinds.specs.declared.refusals.Refusal.TheVariants.{CellTwice}
use Rattle.kinds.specs.Refusals.{answer_number, answer_cell}
use Rattle.dayfile.specs.Faults.{first_faults, fault_of}

-- a number that a fault has
abbrev known-number : ℕ → Bool
known-number n = leb n 9 || eqb n 23

-- the fault of a number has that number, and with 7, 8 and 23 the cell, else none: first for those up to 9
first-told : (n c : ℕ) → n ≤ 9 → (answer_number (first_faults n c) ≡ n) × (answer_cell (first_faults n c) ≡ cond (eqb n 7 || eqb n 8) c 0)
unfolding first_faults
first-told zero c l = (refl, refl)
first-told (suc zero) c l = (refl, refl)
first-told (suc (suc zero)) c l = (refl, refl)
first-told (suc (suc (suc zero))) c l = (refl, refl)
first-told (suc (suc (suc (suc zero)))) c l = (refl, refl)
first-told (suc (suc (suc (suc (suc zero))))) c l = (refl, refl)
first-told (suc (suc (suc (suc (suc (suc zero)))))) c l = (refl, refl)
first-told (suc (suc (suc (suc (suc (suc (suc zero))))))) c l = (refl, refl)
first-told (suc (suc (suc (suc (suc (suc (suc (suc zero)))))))) c l = (refl, refl)
first-told (suc (suc (suc (suc (suc (suc (suc (suc (suc zero))))))))) c l = (refl, refl)
first-told (suc (suc (suc (suc (suc (suc (suc (suc (suc (suc n)))))))))) c l = absurd (omega arith)

told : (n c : ℕ) → known-number n ≡ true → (answer_number (fault_of n c) ≡ n) × (answer_cell (fault_of n c) ≡ cond (eqb n 7 || eqb n 8 || eqb n 23) c 0)
unfolding fault_of
told n c l = go (cases (eqb n 23))
  where
    or-none : (b : Bool) → (b || false) ≡ b
    or-none true = refl
    or-none false = refl

    go : (eqb n 23 ≡ true) ⊎ (eqb n 23 ≡ false) → let a = cond (eqb n 23) (Err (CellTwice (record { 0 = c }))) (first_faults n c) in
        (answer_number a ≡ n) × (answer_cell a ≡ cond (eqb n 7 || eqb n 8 || eqb n 23) c 0)
    go (inl e) = let q : n ≡ 23 = eqb-true n 23 e in rw q (refl, refl)
    go (inr e) =
        rw (e, or-none (eqb n 7 || eqb n 8))
        (first-told n c (elim (or_cases (leb n 9) (eqb n 23) l) [ inl q ↦ leb-true n 9 q | inr q ↦ absurd (false≢true (sym e ∙ q)) ]))

-- two answers about a file with the same number and the same cell are the same
pub answers-same : (a b : Result (Unit {0}) Refusal) → known-number (answer_number a) ≡ true → answer_number a ≡ answer_number b → answer_cell a ≡ answer_cell b → a ≡ b
unfolding low
answers-same a b k n c =
    let l = known-low (answer_number a) k in
    let m = ap low (sym n) ∙ l in
    answers-alike a b n (low-place a l ∙ sym (low-place b m)) c (low-why a l ∙ ap (λ i. i ∷ []) n ∙ sym (low-why b m)) (λ x y u v. refl)
  where
    known-low : (n : ℕ) → known-number n ≡ true → low n ≡ true
    known-low n k = elim (or_cases (leb n 9) (eqb n 23) k) [
      | inl l ↦ let q = leb-true n 9 l in rw (ne_eqb n 11 (λ e. omega arith), ne_eqb n 28 (λ e. omega arith))
      | inr e ↦ rw (eqb-true n 23 e) refl
    ]

-- the first broken rule's answer is one of the rules' answers
first-known : (rs : List (Rule ℕ)) → all_of (λ r. known-number r.answer) rs ≡ true → known-number (first_broken rs 0) ≡ true
unfolding all_of first_broken
first-known [] h = refl
first-known (r ∷ rs) h = go r.broken (left (known-number r.answer) _ h) (first-known rs (right (known-number r.answer) _ h))
  where
    go : (b : Bool) → known-number r.answer ≡ true → known-number (first_broken rs 0) ≡ true → known-number (cond b r.answer (first_broken rs 0)) ≡ true
    go true p q = p
    go false p q = q

file-known : (f : List ℕ) → known-number (file_number f) ≡ true
unfolding file_number
file-known f = first-known (file_rules f) (unfold all_of file_rules in refl)

-- what `fault` answers has the file's number, and with 7, 8 and 23 its cell
module _ (f : List ℕ) where
  pub number-back : answer_number (fault_of (file_number f) (fault_cell f)) ≡ file_number f
  number-back = (told (file_number f) (fault_cell f) (file-known f)).0

  pub cell-back : answer_cell (fault_of (file_number f) (fault_cell f)) ≡ cond (eqb (file_number f) 7 || eqb (file_number f) 8 || eqb (file_number f) 23) (fault_cell f) 0
  cell-back = (told (file_number f) (fault_cell f) (file-known f)).1
