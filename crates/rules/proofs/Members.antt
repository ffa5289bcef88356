-- The numbers below n that some row has: as members of the joined rows; where n does not matter; and where all numbers below n are among them.
use mathlib.Core.Path.{◌≡◌, refl, sym, ap, ◌∙◌}
use mathlib.Core.Bool.{Bool, true, false, ◌||◌, or_assoc}
use mathlib.Core.Logic.{⊎_elim}
use mathlib.Core.List.{List, [], ◌∷◌, ◌++◌, append-nil, Memᴰ as In}
use Prim.Native.Nat.{ℕ, zero, suc, ◌+◌, ◌-◌, ◌≤◌, ◌<◌}
use native.Mathlib.Nat.{add-zero, add-suc}
use native.Mathlib.Omega.{arith}
use lib.ListN.{length, length-append}
use lib.Dec.{eqb}
use Rattle.rules.specs.Lists.{up_to, any_of, keep, has, joined, members_below}
use Rattle.rules.proofs.Compared.{lt-or-le}
use Rattle.rules.proofs.Tests.{cases, any-is, has-is}
use Rattle.rules.proofs.First.{keep-last, keep-length}

pub has-append : (j : ℕ) (vs us : List ℕ) → has j (vs ++ us) ≡ (has j vs || has j us)
unfolding has any_of
has-append j [] us = refl
has-append j (v ∷ vs) us = rw (has-append j vs us) (sym (or_assoc (eqb j v) (has j vs) (has j us)))

-- some row has v exactly where the joined rows have it
pub has-joined : (v : ℕ) (rs : List (List ℕ)) → has v (joined rs) ≡ any_of (has v) rs
unfolding joined any_of
has-joined v [] = unfold has in refl
has-joined v (r ∷ rs) = has-append v r (joined rs) ∙ ap (λ (b : Bool). has v r || b) (has-joined v rs)

-- there are no more of them than numbers below n
pub members-most : (n : ℕ) (rs : List (List ℕ)) → length (members_below n rs) ≤ n
unfolding members_below
members-most n rs = keep-length (λ v. any_of (has v) rs) n

-- ---- rows with no member from n on: numbers from n on change nothing
module _ (rs : List (List ℕ)) (n : ℕ) (below : (r : List ℕ) → In r rs → (v : ℕ) → In v r → v < n) where
  none_from : (v : ℕ) → n ≤ v → any_of (has v) rs ≡ false
  none_from v l =
      ⊎_elim
      (λ t. let (r, i, h) = any-is (has v) rs t in absurd (omega (arith, below r i v (has-is v r h))))
      (λ f. f)
      (cases (any_of (has v) rs))

  members-more : (k : ℕ) → members_below (n + k) rs ≡ members_below n rs
  unfolding members_below
  members-more zero = rw (add-zero n)
  members-more (suc k) = rw (add-suc n k) (keep-last (λ v. any_of (has v) rs) (n + k) ∙ rw (none_from (n + k) (omega arith), append-nil) (members-more k))

  pub members-from : (k : ℕ) → n ≤ k → members_below k rs ≡ members_below n rs
  members-from k l = let e : k ≡ n + (k - n) = omega arith in ap (λ (x : ℕ). members_below x rs) e ∙ members-more (k - n)

-- two bounds, both above every member: the same numbers
pub members-same : (rs : List (List ℕ)) (n k : ℕ) → ((r : List ℕ) → In r rs → (v : ℕ) → In v r → v < n) → ((r : List ℕ) → In r rs → (v : ℕ) → In v r → v < k)
    → members_below n rs ≡ members_below k rs
members-same rs n k f g = ⊎_elim (λ l. sym (members-from rs n f k (omega arith))) (λ l. members-from rs k g n l) (lt-or-le n k)

-- where some row has each number below n, they are n
pub members-all : (rs : List (List ℕ)) (n : ℕ) → ((v : ℕ) → v < n → any_of (has v) rs ≡ true) → length (members_below n rs) ≡ n
unfolding members_below
members-all rs zero h = unfold up_to keep in refl
members-all rs (suc n) h =
    rw (keep-last (λ v. any_of (has v) rs) n, h n (omega arith), length-append)
    (omega (arith, members-all rs n (λ v l. h v (omega arith))))
