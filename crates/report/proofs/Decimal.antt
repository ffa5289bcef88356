-- The decimal digits of a number: one below ten, else those of its tenth and one more. They are the digits that std prints.
use mathlib.Core.Path.{◌≡◌, refl, sym}
use mathlib.Core.List.{[], ◌∷◌, ◌++◌}
use mathlib.Core.Logic.{⊎_elim}
use Prim.Native.Nat.{ℕ, zero, suc, ◌+◌, ◌/◌, ◌%◌, ◌^◌, ◌≤◌, ◌<◌}
use native.Mathlib.Omega.{arith}
use borrow.Author.Tests.{lt-ltb, le-ltb}
use Rattle.std.specs.Fmt.{decimal}
use Rattle.std.proofs.lemmas.Fmt.{decimal_by_steps}
use Rattle.rules.proofs.Compared.{lt-or-le}
use Rattle.report.specs.Lines.{digits_in, digits}

-- the bound on how many digits does not matter where it is large enough
digits-any : (f g n : ℕ) → n ≤ f → n ≤ g → digits_in f n ≡ digits_in g n
unfolding digits_in
digits-any zero zero n h l = refl
digits-any zero (suc g) n h l = let e : n ≡ 0 = omega arith in rw e
digits-any (suc f) zero n h l = let e : n ≡ 0 = omega arith in rw e
digits-any (suc f) (suc g) n h l =
    ⊎_elim
    (λ (b : n < 10). rw (lt-ltb n 10 b))
    (λ (b : 10 ≤ n). rw (digits-any f g (n / 10) (omega arith) (omega arith)))
    (lt-or-le n 10)

digits-one : (n : ℕ) → n < 10 → digits n ≡ (48 + n) ∷ []
unfolding digits digits_in
digits-one zero h = refl
digits-one (suc n) h = rw (lt-ltb (suc n) 10 h)

digits_more : (n : ℕ) → 10 ≤ n → digits n ≡ digits (n / 10) ++ ((48 + n % 10) ∷ [])
unfolding digits digits_in
digits_more zero h = absurd (omega arith)
digits_more (suc n) h = rw (le-ltb (suc n) 10 h, digits-any n (suc n / 10) (suc n / 10) (omega arith) (omega arith))

-- they are what std prints
pub decimal-digits : (n : ℕ) → n < 2 ^ 64 → decimal n ≡ digits n
decimal-digits = decimal_by_steps (λ m ds. ds ≡ digits m) (λ m l. sym (digits-one m l)) (λ m ds l h. rw (digits_more m l, h))
