-- The order of finite floats: one is at most another exactly when the other is not below it, and not being below goes on from one to the next. `finite` is `lib.Ieee.Scale`'s: neither a NaN nor an infinity.
use mathlib.Core.Path.{◌≡◌, refl, sym, ap, ◌∙◌}
use mathlib.Core.Logic.{inl, inr}
use mathlib.Core.Bool.{Bool, true, false, not, ◌&&◌, ◌||◌, false≢true}
use Prim.Native.Nat.{ℕ, ◌+◌, ◌*◌, ◌<◌}
use native.Mathlib.Nat.{mul_assoc, mul_comm, mul_left_comm, mul-pos, sub_self, add-zero, zero-add, add_comm}
use native.Mathlib.Omega.{arith}
use lib.Dec.{ltb, eqb, lit<}
use borrow.Author.Tests.{ltb-false, lt-ltb, le-ltb, eqb-true, eq-eqb, ne_eqb, not-true}
use lib.IntN.{pos}
use lib.Ieee.{Float, nan, inf, fin, binary64, round, sum, sub, lt, le, eq, below, level, up, down}
use lib.Ieee.Fits.{down_pos}
use lib.Ieee.Exact.{HasValue}
use lib.Ieee.Scale.{finite, round_same}
use Rattle.rules.proofs.Tests.{agree, left, right, and-of}
use Rattle.rules.proofs.Compared.{order}
use Rattle.floats.proofs.Fractions.{lt-values}

-- ==== a finite float less itself
zero-sum : (s : Bool) (a c : ℕ) → 0 < c → sum binary64 s a (not s) a c ≡ fin false 0 (pos 0)
unfolding sum round
zero-sum true a c C = rw (le-ltb a a (omega arith), sub_self) (round_same binary64 false 0 c 0 1 C (lit< tt) (omega arith))
zero-sum false a c C = rw (le-ltb a a (omega arith), sub_self) (round_same binary64 false 0 c 0 1 C (lit< tt) (omega arith))

pub less-itself : (x : Float) → eq (sub binary64 x x) (fin false 0 (pos 0)) ≡ finite x
unfolding eq sub
less-itself nan = refl
less-itself (inf true) = refl
less-itself (inf false) = refl
less-itself (fin s m e) = ap (λ (z : Float). eq z (fin false 0 (pos 0))) (zero-sum s (m * up e * down e) (down e * down e) (mul-pos (down_pos e) (down_pos e)))

-- ==== at most, and not below
at_most : (s t : Bool) (a b : ℕ) → (below s a t b || level s a t b) ≡ not (below t b s a)
at_most false false a b = elim (order a b) [
  | inl e ↦ rw (le-ltb a b (omega arith), eq-eqb a b e, le-ltb b a (omega arith))
  | inr (inl l) ↦ rw (lt-ltb a b l, le-ltb b a (omega arith))
  | inr (inr l) ↦ rw (le-ltb a b (omega arith), ne_eqb a b (λ e. omega arith), lt-ltb b a l)
]
at_most false true a b = agree (eqb a b && eqb a 0) (not (ltb 0 (b + a)))
    (λ h. let p = eqb-true a b (left (eqb a b) (eqb a 0) h) in let q = eqb-true a 0 (right (eqb a b) (eqb a 0) h) in ap not (le-ltb 0 (b + a) (omega arith)))
    (λ h. let l = ltb-false 0 (b + a) (not-true (ltb 0 (b + a)) h) in and-of (eqb a b) (eqb a 0) (eq-eqb a b (omega arith)) (eq-eqb a 0 (omega arith)))
at_most true false a b = elim (order (a + b) 0) [
  | inl e ↦ rw (le-ltb 0 (a + b) (omega arith), eq-eqb a b (omega arith), eq-eqb a 0 (omega arith))
  | inr (inl l) ↦ absurd (omega arith)
  | inr (inr l) ↦ rw (lt-ltb 0 (a + b) l)
]
at_most true true a b = elim (order a b) [
  | inl e ↦ rw (le-ltb b a (omega arith), eq-eqb a b e, le-ltb a b (omega arith))
  | inr (inl l) ↦ rw (le-ltb b a (omega arith), ne_eqb a b (λ e. omega arith), lt-ltb a b l)
  | inr (inr l) ↦ rw (lt-ltb b a l, le-ltb a b (omega arith))
]

pub le_is : (x y : Float) → finite x ≡ true → finite y ≡ true → le x y ≡ not (lt y x)
unfolding le lt
le_is nan y X Y = absurd (false≢true X)
le_is (inf s) y X Y = absurd (false≢true X)
le_is (fin s m e) nan X Y = absurd (false≢true Y)
le_is (fin s m e) (inf t) X Y = absurd (false≢true Y)
le_is (fin s m e) (fin t n d) X Y = at_most s t (m * up e * down d) (n * up d * down e)

-- ==== a float's place: over one divisor the order is that of the numbers over less those under
abbrev over : Bool → ℕ → ℕ
over true a = 0
over false a = a

abbrev under : Bool → ℕ → ℕ
under true a = a
under false a = 0

below-is : (s t : Bool) (a b : ℕ) → below s a t b ≡ ltb (over s a + under t b) (over t b + under s a)
below-is false false a b = rw (add-zero a, add-zero b)
below-is false true a b = sym (le-ltb (a + b) 0 (omega arith))
below-is true false a b = rw (add_comm a b)
below-is true true a b = rw (zero-add a, zero-add b)

places : (x y : Float) (s t : Bool) (a b d : ℕ) → 0 < d → HasValue x s a d → HasValue y t b d → lt x y ≡ ltb (over s a + under t b) (over t b + under s a)
places x y s t a b d D h k = lt-values x y s t a b d D h k ∙ below-is s t a b

-- one value over a greater divisor
first : (M e d g : ℕ) → M * (e * d * g) ≡ M * (d * g) * e
first M e d g = simp (mul_assoc, mul_comm, mul_left_comm)

second : (M e d g : ℕ) → M * (e * d * g) ≡ M * (e * g) * d
second M e d g = simp (mul_assoc, mul_comm)

third : (M e d g : ℕ) → M * (e * d * g) ≡ M * (e * d) * g
third M e d g = simp mul_assoc

-- ==== the laws
pub not-below : (x y : Float) → finite x ≡ true → finite y ≡ true → lt y x ≡ false → le x y ≡ true
not-below x y X Y h = le_is x y X Y ∙ ap not h

pub le-not-below : (x y : Float) → finite x ≡ true → finite y ≡ true → le x y ≡ true → lt y x ≡ false
le-not-below x y X Y h = not-true (lt y x) (sym (le_is x y X Y) ∙ h)

pub below-le : (x y : Float) → lt x y ≡ true → le x y ≡ true
unfolding le
below-le x y h = rw h

through : (a b c p q r : ℕ) → ltb (b + p) (a + q) ≡ false → ltb (c + q) (b + r) ≡ false → ltb (c + p) (a + r) ≡ false
through a b c p q r h k = le-ltb (c + p) (a + r) (omega (arith, ltb-false (b + p) (a + q) h, ltb-false (c + q) (b + r) k))

pub not-below-trans : (x y z : Float) → finite x ≡ true → finite y ≡ true → finite z ≡ true → lt y x ≡ false → lt z y ≡ false → lt z x ≡ false
not-below-trans nan y z X Y Z h k = absurd (false≢true X)
not-below-trans (inf s) y z X Y Z h k = absurd (false≢true X)
not-below-trans (fin s m e) nan z X Y Z h k = absurd (false≢true Y)
not-below-trans (fin s m e) (inf t) z X Y Z h k = absurd (false≢true Y)
not-below-trans (fin s m e) (fin t n d) nan X Y Z h k = absurd (false≢true Z)
not-below-trans (fin s m e) (fin t n d) (inf u) X Y Z h k = absurd (false≢true Z)
not-below-trans (fin s m e) (fin t n d) (fin u l g) X Y Z h k =
    let x = fin s m e in
    let y = fin t n d in
    let z = fin u l g in
    let D = down e * down d * down g in
    let P : 0 < D = mul-pos (mul-pos (down_pos e) (down_pos d)) (down_pos g) in
    let a = m * up e * (down d * down g) in
    let b = n * up d * (down e * down g) in
    let c = l * up g * (down e * down d) in
    let x-is : HasValue x s a D = (refl, first (m * up e) (down e) (down d) (down g)) in
    let y-is : HasValue y t b D = (refl, second (n * up d) (down e) (down d) (down g)) in
    let z-is : HasValue z u c D = (refl, third (l * up g) (down e) (down d) (down g)) in
    places z x u s c a D P z-is x-is
    ∙ through (over s a) (over t b) (over u c) (under s a) (under t b) (under u c) (sym (places y x t s b a D P y-is x-is) ∙ h) (sym (places z y u t c b D P z-is y-is) ∙ k)

pub not-below-itself : (x : Float) → lt x x ≡ false
unfolding lt
not-below-itself nan = refl
not-below-itself (inf true) = refl
not-below-itself (inf false) = refl
not-below-itself (fin true m e) = le-ltb (m * up e * down e) (m * up e * down e) (omega arith)
not-below-itself (fin false m e) = le-ltb (m * up e * down e) (m * up e * down e) (omega arith)
