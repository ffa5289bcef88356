-- What the words decide, case by case; and a call that looks a book through first refuses as that says.
use mathlib.Core.Path.{◌≡◌, refl, sym, ap, ◌∙◌}
use mathlib.Core.Bool.{Bool, true, false, cond, not}
use mathlib.Core.List.{List, [], ◌∷◌}
use Prim.Native.Nat.{ℕ}
use lib.Dec.{eqb}
use borrow.Author.Tests.{ne_eqb}
use Rattle.std.specs.Prelude.{Result, Err, IsErrAnd}
use Rattle.rules.specs.Broken.{broken_at, told}
use Rattle.kinds.specs.declared.refusals.Refusal.{Refusal}
use Rattle.kinds.specs.Refusals.{refusal_number, refusal_place, refusal_why, answer_number, answer_place}
use Rattle.kinds.proofs.Determined.{bare, bare-why, handed-on, refused-accepted}
use Rattle.rules.specs.Book.{frame_right, rows_right}
use Rattle.rules.specs.Calls.{Rule, rule, first_broken}
use Rattle.right.specs.Checks.{right_number}

module _ (ws : List ℕ) where
  pub right-10 : frame_right ws ≡ false → 10 ≡ right_number ws
  unfolding right_number first_broken
  right-10 f = rw f

  pub right-11 : frame_right ws ≡ true → rows_right ws ≡ false → 11 ≡ right_number ws
  unfolding right_number first_broken
  right-11 f r = rw (f, r)

  pub right-0 : frame_right ws ≡ true → rows_right ws ≡ true → 0 ≡ right_number ws
  unfolding right_number first_broken
  right-0 f r = rw (f, r)

-- what a call tells that refuses as the words decide: n is its number
pub record Refuses {A : Type 0} (ws : List ℕ) (n : ℕ) (a : Result A Refusal) (r : Refusal) : Type 0 where
  pub is : a ≡ Err r
  pub number : answer_number a ≡ n
  pub place : answer_place a ≡ told n (broken_at ws)
  pub some : eqb n 0 ≡ false

-- a call whose first two refusals these are hands on what is decided
pub refuses : {A : Type 0} (ws : List ℕ) (rs : List (Rule ℕ)) (a : Result A Refusal) (r : Refusal) → IsErrAnd a (λ s. s ≡ r)
    → refusal_number r ≡ right_number ws → refusal_place r ≡ told (right_number ws) (broken_at ws)
    → Refuses ws (first_broken (rule (not (frame_right ws)) 10 ∷ rule (not (rows_right ws)) 11 ∷ rs) 0) a r
unfolding right_number first_broken
refuses ws rs a r e n p =
    let h = handed-on a r e in
    let l = go (frame_right ws) (rows_right ws) n in
    record {
      is = h;
      number = ap answer_number h ∙ l;
      place = ap answer_place h ∙ p ∙ ap (λ k. told k (broken_at ws)) (sym n ∙ l);
      some = rw (← l) (ne_eqb (refusal_number r) 0 (refused-accepted r));
    }
  where
    go : (f b : Bool) → refusal_number r ≡ cond (not f) 10 (cond (not b) 11 0) → refusal_number r ≡ cond (not f) 10 (cond (not b) 11 (first_broken rs 0))
    go false b e = e
    go true false e = e
    go true true e = absurd (refused-accepted r e)

-- ---- what is decided is 10 or 11, and comes without a reason
module _ (ws : List ℕ) where
  bare-number : bare (right_number ws) ≡ true
  unfolding bare right_number first_broken
  bare-number = go (frame_right ws) (rows_right ws)
    where
      go : (f b : Bool) → bare (cond (not f) 10 (cond (not b) 11 0)) ≡ true
      go false b = refl
      go true false = refl
      go true true = refl

  pub without-reason : (r : Refusal) → refusal_number r ≡ right_number ws → refusal_why r ≡ right_number ws ∷ []
  without-reason r n = bare-why {A = Unit {0}} (Err r) (ap bare n ∙ bare-number) ∙ ap (λ k. k ∷ []) n

  -- whatever holds of 10 in a book with a broken frame, and of 11 in one with broken rows, holds of it
  pub either : (P : ℕ → Type 0) → (right_number ws ≡ 0 → ⊥) → (frame_right ws ≡ false → P 10) → (frame_right ws ≡ true → rows_right ws ≡ false → P 11) → P (right_number ws)
  unfolding right_number first_broken
  either P z f r = go (frame_right ws) refl (rows_right ws) refl
    where
      go : (x : Bool) → frame_right ws ≡ x → (y : Bool) → rows_right ws ≡ y → P (cond (not x) 10 (cond (not y) 11 0))
      go false e y q = f e
      go true e false q = r e q
      go true e true q = absurd (z (rw (e, q)))
