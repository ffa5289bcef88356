-- The furthest of finite values, below or above: it is one of them, none lies beyond it, and of equal ones it is the first.
use mathlib.Core.Path.{◌≡◌, refl, sym, ◌∙◌}
use mathlib.Core.Logic.{◌⊎◌, inl, inr}
use mathlib.Core.Bool.{Bool, true, false, cond, true≢false}
use mathlib.Core.List.Memᴰ.{head as here}
use mathlib.Core.List.Memᴰ.{tail as there}
use mathlib.Core.List.{List, [], ◌∷◌, Memᴰ as In}
use Prim.Native.Nat.{ℕ, zero, suc, ◌<◌}
use native.Mathlib.Omega.{arith}
use lib.ListN.{length, get_or}
use lib.Ieee.{Float, lt}
use lib.Ieee.Scale.{finite}
use Rattle.rules.specs.Lists.{all_of}
use Rattle.rules.proofs.Tests.{cases, left, right}
use Rattle.floats.proofs.Ordered.{le-not-below, below-le, not-below-itself, not-below-trans}
use Rattle.rules.specs.Boxes.{greater, replaced, furthest}

-- ==== what either direction has: nothing is beyond itself, what is beyond is not behind, and not being beyond goes on
pub record Direction (beyond : Float → Float → Bool) : Type 0 where
  pub itself : (x : Float) → beyond x x ≡ false
  pub one_way : (x y : Float) → finite x ≡ true → finite y ≡ true → beyond x y ≡ true → beyond y x ≡ false
  pub goes_on : (x y z : Float) → finite x ≡ true → finite y ≡ true → finite z ≡ true → beyond y x ≡ false → beyond z y ≡ false → beyond z x ≡ false

pub downward : Direction lt
downward = record { itself = not-below-itself; one_way = λ x y X Y h. le-not-below x y X Y (below-le x y h); goes_on = not-below-trans }

pub upward : Direction greater
unfolding greater
upward = record { itself = not-below-itself; one_way = λ x y X Y h. le-not-below y x Y X (below-le y x h); goes_on = λ x y z X Y Z h k. not-below-trans z y x Z Y X k h }

module _ (beyond : Float → Float → Bool) (way : Direction beyond) where
  -- ==== one value more
  replaced-one : (e x : Float) → (replaced beyond e x ≡ e) ⊎ (replaced beyond e x ≡ x)
  unfolding replaced
  replaced-one e x = elim (cases (beyond x e)) [ inl h ↦ inr (rw h) | inr h ↦ inl (rw h) ]

  replaced-finite : (e x : Float) → finite e ≡ true → finite x ≡ true → finite (replaced beyond e x) ≡ true
  replaced-finite e x E X = elim (replaced-one e x) [ inl p ↦ rw p E | inr p ↦ rw p X ]

  replaced-old : (e x : Float) → finite e ≡ true → finite x ≡ true → beyond e (replaced beyond e x) ≡ false
  unfolding replaced
  replaced-old e x E X = elim (cases (beyond x e)) [ inl h ↦ rw h (way.one_way x e X E h) | inr h ↦ rw h (way.itself e) ]

  replaced-new : (e x : Float) → beyond x (replaced beyond e x) ≡ false
  unfolding replaced
  replaced-new e x = elim (cases (beyond x e)) [ inl h ↦ rw h (way.itself x) | inr h ↦ rw h h ]

  -- ==== all values
  pub furthest-finite : (e : Float) (xs : List Float) → finite e ≡ true → all_of finite xs ≡ true → finite (furthest beyond e xs) ≡ true
  unfolding furthest all_of
  furthest-finite e [] E X = E
  furthest-finite e (x ∷ xs) E X = furthest-finite (replaced beyond e x) xs (replaced-finite e x E (left (finite x) (all_of finite xs) X)) (right (finite x) (all_of finite xs) X)

  -- it is one of them, bit for bit
  pub furthest-one : (e : Float) (xs : List Float) → In (furthest beyond e xs) (e ∷ xs)
  unfolding furthest
  furthest-one e [] = here refl
  furthest-one e (x ∷ xs) = go (furthest-one (replaced beyond e x) xs)
    where
      go : In (furthest beyond (replaced beyond e x) xs) (replaced beyond e x ∷ xs) → In (furthest beyond (replaced beyond e x) xs) (e ∷ x ∷ xs)
      go (here p) = elim (replaced-one e x) [ inl q ↦ here (p ∙ q) | inr q ↦ there (here (p ∙ q)) ]
      go (there i) = there (there i)

  -- none is beyond it: neither the first nor another
  furthest-first : (e : Float) (xs : List Float) → finite e ≡ true → all_of finite xs ≡ true → beyond e (furthest beyond e xs) ≡ false
  unfolding furthest all_of
  furthest-first e [] E X = way.itself e
  furthest-first e (x ∷ xs) E X =
      let h = left (finite x) (all_of finite xs) X in
      let k = right (finite x) (all_of finite xs) X in
      let r = replaced beyond e x in
      let R = replaced-finite e x E h in
      way.goes_on (furthest beyond r xs) r e (furthest-finite r xs R k) R E (furthest-first r xs R k) (replaced-old e x E h)

  furthest-other : (e : Float) (xs : List Float) (z : Float) → finite e ≡ true → all_of finite xs ≡ true → In z xs → beyond z (furthest beyond e xs) ≡ false
  unfolding furthest all_of
  furthest-other e [] z E X x3 = elim x3 [ ]
  furthest-other e (x ∷ xs) z E X (here p) =
      let h = left (finite x) (all_of finite xs) X in
      let k = right (finite x) (all_of finite xs) X in
      let r = replaced beyond e x in
      let R = replaced-finite e x E h in
      rw p (way.goes_on (furthest beyond r xs) r x (furthest-finite r xs R k) R h (furthest-first r xs R k) (replaced-new e x))
  furthest-other e (x ∷ xs) z E X (there i) = furthest-other (replaced beyond e x) xs z (replaced-finite e x E (left (finite x) (all_of finite xs) X)) (right (finite x) (all_of finite xs) X) i

  pub furthest-none : (e : Float) (xs : List Float) (z : Float) → finite e ≡ true → all_of finite xs ≡ true → In z (e ∷ xs) → beyond z (furthest beyond e xs) ≡ false
  furthest-none e xs z E X (here p) = rw p (furthest-first e xs E X)
  furthest-none e xs z E X (there i) = furthest-other e xs z E X i

  -- ==== which of equal values
  -- what is beyond a value is beyond each that is not
  beyond-over : (a b c : Float) → finite a ≡ true → finite b ≡ true → finite c ≡ true → beyond a b ≡ true → beyond c b ≡ false → beyond a c ≡ true
  beyond-over a b c A B C h n = elim (cases (beyond a c)) [ inl k ↦ k | inr k ↦ absurd (true≢false (sym h ∙ way.goes_on b c a B C A n k)) ]

  -- the first stays: it stands at a place, and is strictly beyond each value before that place
  pub record Earliest (xs : List Float) (d end : Float) : Type 0 where
    pub place : ℕ
    pub there : place < length xs
    pub is : get_or xs place d ≡ end
    pub before : (q : ℕ) → q < place → beyond end (get_or xs q d) ≡ true

  module _ (e x : Float) (xs : List Float) (d f : Float) (E : finite e ≡ true) (X : finite x ≡ true) (F : finite f ≡ true) where
    -- a value in front that is replaced, and one behind it that is not taken
    taken : beyond x e ≡ true → Earliest (x ∷ xs) d f → Earliest (e ∷ x ∷ xs) d f
    taken h a = record { place = suc a.place; there = omega (arith, a.there); is = a.is; before = each }
      where
        past : (p : ℕ) → get_or (x ∷ xs) p d ≡ f → ((q : ℕ) → q < p → beyond f (get_or (x ∷ xs) q d) ≡ true) → beyond f e ≡ true
        past zero i b = rw (sym i) h
        past (suc p) i b = beyond-over f x e F X E (b 0 (omega arith)) (way.one_way x e X E h)

        each : (q : ℕ) → q < suc a.place → beyond f (get_or (e ∷ x ∷ xs) q d) ≡ true
        each zero l = past a.place a.is a.before
        each (suc q) l = a.before q (omega arith)

    stayed : beyond x e ≡ false → Earliest (e ∷ xs) d f → Earliest (e ∷ x ∷ xs) d f
    stayed h a = go a.place a.there a.is a.before
      where
        go : (p : ℕ) → p < length (e ∷ xs) → get_or (e ∷ xs) p d ≡ f → ((q : ℕ) → q < p → beyond f (get_or (e ∷ xs) q d) ≡ true) → Earliest (e ∷ x ∷ xs) d f
        go zero l i b = record { place = 0; there = omega arith; is = i; before = λ q l. absurd (omega arith) }
        go (suc p) l i b = record { place = suc (suc p); there = omega arith; is = i; before = each }
          where
            each : (q : ℕ) → q < suc (suc p) → beyond f (get_or (e ∷ x ∷ xs) q d) ≡ true
            each zero l = b 0 (omega arith)
            each (suc zero) l = beyond-over f e x F E X (b 0 (omega arith)) h
            each (suc (suc q)) l = b (suc q) (omega arith)

  pub furthest-earliest : (e : Float) (xs : List Float) (d : Float) → finite e ≡ true → all_of finite xs ≡ true → Earliest (e ∷ xs) d (furthest beyond e xs)
  unfolding furthest all_of replaced
  furthest-earliest e [] d E X = record { place = 0; there = omega arith; is = refl; before = λ q l. absurd (omega arith) }
  furthest-earliest e (x ∷ xs) d E X =
      let X₁ = left (finite x) (all_of finite xs) X in
      let X₂ = right (finite x) (all_of finite xs) X in
      go X₁ X₂ (beyond x e) refl (furthest-earliest x xs d X₁ X₂) (furthest-earliest e xs d E X₂)
    where
      go : finite x ≡ true → all_of finite xs ≡ true → (b : Bool) → beyond x e ≡ b → Earliest (x ∷ xs) d (furthest beyond x xs) → Earliest (e ∷ xs) d (furthest beyond e xs) → Earliest (e ∷ x ∷ xs) d (furthest beyond (cond b x e) xs)
      go X₁ X₂ true h a b = taken e x xs d (furthest beyond x xs) E X₁ (furthest-finite x xs X₁ X₂) h a
      go X₁ X₂ false h a b = stayed e x xs d (furthest beyond e xs) E X₁ (furthest-finite e xs E X₂) h b
