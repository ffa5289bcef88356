-- What comes with 11: nothing is found exactly where the row rule holds; and a call that checks the frame, then the rows, and gives 11 nowhere else has a place to tell with it.
use mathlib.Core.Path.{◌≡◌, refl, sym, ap, ◌∙◌}
use mathlib.Core.Bool.{Bool, true, false, cond, not}
use mathlib.Core.Logic.{inl, inr}
use mathlib.Core.List.{List, [], ◌∷◌}
use mathlib.Core.Option.{Option, none, some, some-injective, none-ne-some}
use Prim.Native.Nat.{ℕ}
use native.Mathlib.Omega.{arith}
use lib.Dec.{eqb}
use borrow.Author.Tests.{eqb-false, not-true, not-false}
use Rattle.rules.specs.Lists.{all_of}
use Rattle.rules.specs.Book.{key, frame_right, rows_right}
use Rattle.rules.specs.Broken.{broken_key, broken_place, rows_broken, broken_at, broken_offset, row_broken_at, told}
use Rattle.rules.specs.Calls.{Rule, rule, first_broken}
use Rattle.rules.proofs.Tests.{cases, left, right}
use Rattle.rules.proofs.BrokenFound.{rows-found}

-- ---- where the frame is right
module _ (ws : List ℕ) (f : frame_right ws ≡ true) where
  pub right-none : rows_right ws ≡ true → broken_at ws ≡ none
  unfolding broken_at
  right-none r = rw (not-true (rows_broken ws) (sym (rows-found ws f) ∙ r))

  pub wrong-some : rows_right ws ≡ false → broken_at ws ≡ some (broken_key ws, broken_place ws)
  unfolding broken_at
  wrong-some r = rw (not-false (rows_broken ws) (sym (rows-found ws f) ∙ r))

  -- and back
  pub none_right : broken_at ws ≡ none → rows_right ws ≡ true
  none_right e = elim (cases (rows_right ws)) [ inl r ↦ r | inr r ↦ absurd (none-ne-some _ (sym e ∙ wrong-some r)) ]

  pub some-wrong : (b : ℕ × ℕ) → broken_at ws ≡ some b → rows_right ws ≡ false
  some-wrong b e = elim (cases (rows_right ws)) [ inl r ↦ absurd (none-ne-some b (sym (right-none r) ∙ e)) | inr r ↦ r ]

-- ---- a call's number
no-eleven : (rs : List (Rule ℕ)) → all_of (λ r. not (eqb r.answer 11)) rs ≡ true → first_broken rs 0 ≡ 11 → ⊥
unfolding all_of first_broken
no-eleven [] p z = omega arith
no-eleven (r ∷ rs) p z = go r.broken z (no-eleven rs (right (not (eqb r.answer 11)) (all_of (λ r. not (eqb r.answer 11)) rs) p))
  where
    go : (b : Bool) → cond b r.answer (first_broken rs 0) ≡ 11 → (first_broken rs 0 ≡ 11 → ⊥) → ⊥
    go true q ih = eqb-false r.answer 11 (not-true (eqb r.answer 11) (left (not (eqb r.answer 11)) (all_of (λ r. not (eqb r.answer 11)) rs) p)) q
    go false q ih = ih q

pub eleven-broken : (ws : List ℕ) (rs : List (Rule ℕ)) → all_of (λ r. not (eqb r.answer 11)) rs ≡ true
    → first_broken (rule (not (frame_right ws)) 10 ∷ rule (not (rows_right ws)) 11 ∷ rs) 0 ≡ 11 → (frame_right ws ≡ true) × (rows_broken ws ≡ true)
unfolding first_broken
eleven-broken ws rs p z = go (frame_right ws) refl (rows_right ws) refl z
  where
    go : (a : Bool) → frame_right ws ≡ a → (b : Bool) → rows_right ws ≡ b → cond (not a) 10 (cond (not b) 11 (first_broken rs 0)) ≡ 11 → (frame_right ws ≡ true) × (rows_broken ws ≡ true)
    go false x b y q = absurd (eqb-false 10 11 refl q)
    go true x false y q = (x, not-false (rows_broken ws) (sym (rows-found ws x) ∙ y))
    go true x true y q = absurd (no-eleven rs p q)

-- the place that comes with 11 is the book's, and Row's is the row's
pub told-place : (ws : List ℕ) (n : ℕ) (b : ℕ × ℕ) → 11 ≡ n → some b ≡ told n (broken_at ws) → (b.0 ≡ broken_key ws) × (b.1 ≡ broken_place ws)
unfolding told broken_at
told-place ws n b x e = go (rows_broken ws) (rw (← x) at e)
  where
    go : (r : Bool) → some b ≡ cond r (some (broken_key ws, broken_place ws)) none → (b.0 ≡ broken_key ws) × (b.1 ≡ broken_place ws)
    go true q = let p = some-injective b _ q in (ap (λ (c : ℕ × ℕ). c.0) p, ap (λ (c : ℕ × ℕ). c.1) p)
    go false q = absurd (none-ne-some b (sym q))

pub told-row : (ws : List ℕ) (d e i n : ℕ) (b : ℕ × ℕ) → 11 ≡ n → some b ≡ told n (row_broken_at ws d e i) → (b.0 ≡ key d e) × (b.1 ≡ broken_offset ws d e i)
unfolding told row_broken_at
told-row ws d e i n b x q =
    let p : b ≡ (key d e, broken_offset ws d e i) = some-injective b _ (rw (← x) at q) in
    (ap (λ (c : ℕ × ℕ). c.0) p, ap (λ (c : ℕ × ℕ). c.1) p)

-- with any other number nothing comes
pub untold : (n : ℕ) (place : Option (ℕ × ℕ)) → eqb n 11 ≡ false → none ≡ told n place
unfolding told
untold n place e = rw e

-- the same of a number that was worked out
pub told-eleven : (n : ℕ) (place : Option (ℕ × ℕ)) → 11 ≡ n → place ≡ told n place
unfolding told
told-eleven n place e = rw (← e)

pub untold-as : (m n : ℕ) (place : Option (ℕ × ℕ)) → eqb m 11 ≡ false → m ≡ n → none ≡ told n place
untold-as m n place h e = untold n place (rw (← e) h)

-- nor where nothing is found
pub untold-none : (n : ℕ) (place : Option (ℕ × ℕ)) → place ≡ none → none ≡ told n place
unfolding told
untold-none n place q = go (eqb n 11)
  where
    go : (b : Bool) → none ≡ cond b place none
    go true = sym q
    go false = refl
