-- Tests over the first members of a list, as code goes through them one by one.
use mathlib.Core.Path.{◌≡◌, refl, ap, ◌∙◌}
use mathlib.Core.Bool.{Bool, true, false, ◌&&◌, ◌||◌}
use mathlib.Core.List.{List, [], ◌∷◌}
use Prim.Native.Nat.{ℕ, ◌+◌, ◌<◌}
use native.Mathlib.Numerals.{add-one}
use native.Mathlib.Omega.{arith}
use lib.ListN.{length, get_or, take, drop, set, length-take, length-drop}
use lib.Seq.{take-suc, take-suc-set, get_or-take, get_or-drop}
use lib.Dec.{eqb}
use Rattle.std.specs.List.{list_any, list_all}
use Rattle.rules.specs.Lists.{any_of, all_of, has, inside, meets}
use Rattle.rules.proofs.Tests.{any-of, any_last, get_or-in, eqb_comm}

module _ {A : Type 0} (p : A → Bool) where
  module _ (xs : List A) (d : A) (k : ℕ) (l : k < length xs) where
    pub any_next : any_of p (take k xs) ≡ false → p (get_or xs k d) ≡ false → any_of p (take (k + 1) xs) ≡ false
    any_next a e = rw (add-one, take-suc xs k d l) (any_last p (take k xs) (get_or xs k d) e ∙ a)

    pub any_here : (n : ℕ) → k < n → p (get_or xs k d) ≡ true → any_of p (take n xs) ≡ true
    any_here n m e = any-of p (get_or-in (take n xs) k d (rw length-take (omega arith))) (rw (get_or-take n xs k d m) e)

  pub all_nothing : all_of p [] ≡ true
  unfolding all_of
  all_nothing = refl

-- one word more copied
pub copied_more : (r zs : List ℕ) (first k : ℕ) → take k r ≡ take k (drop first zs) → k < length r → first + k < length zs
    → take (k + 1) (set r k (get_or zs (first + k) 0)) ≡ take (k + 1) (drop first zs)
copied_more r zs first k e l m =
    rw (add-one, take-suc-set r k (get_or zs (first + k) 0) l, take-suc (drop first zs) k 0 (rw length-drop (omega arith)), get_or-drop, e)

-- the tests of a chain, as the rules have them
pub any-has : (x : ℕ) (ws : List ℕ) → list_any (λ w. eqb w x) ws ≡ has x ws
unfolding has any_of
any-has x [] = refl
any-has x (w ∷ ws) = rw (eqb_comm x w) (ap (λ (b : Bool). eqb w x || b) (any-has x ws))

pub all-inside : (ps qs : List ℕ) → list_all (λ w. list_any (λ v. eqb v w) qs) ps ≡ inside ps qs
unfolding inside all_of
all-inside [] qs = refl
all-inside (p ∷ ps) qs = rw (any-has p qs) (ap (λ (b : Bool). has p qs && b) (all-inside ps qs))

pub any-meets : (ps qs : List ℕ) → list_any (λ w. list_any (λ v. eqb v w) qs) ps ≡ meets ps qs
unfolding meets any_of
any-meets [] qs = refl
any-meets (p ∷ ps) qs = rw (any-has p qs) (ap (λ (b : Bool). has p qs || b) (any-meets ps qs))
