-- Sums and order of floats whose values are fractions over one divisor: an operation sees the fractions alone. `HasValue x s a d` says that x is finite, has the sign s, and is a / d in size.
use mathlib.Core.Path.{◌≡◌, refl, sym, ap, ap₂, ◌∙◌, subst}
use mathlib.Core.Bool.{Bool, true, false, not, cond, ◌&&◌, beq}
use Prim.Native.Nat.{ℕ, ◌+◌, ◌-◌, ◌*◌, ◌^◌, ◌<◌}
use native.Mathlib.Nat.{mul_assoc, mul_comm, mul_right_comm, add-mul, mul-sub, mul-pos, mul-lt-mul_of_pos_right, lt_of_mul-lt-mul_right, one-mul}
use native.Mathlib.Omega.{arith}
use lib.Dec.{ltb}
use lib.Pow.{pow_pos}
use borrow.Author.Tests.{ltb-true, lt-ltb}
use lib.IntN.{pos}
use lib.Ieee.{Float, nan, inf, fin, Format, up, down, below, unlike, round, neg, sum, add, sub, div, lt}
use lib.Ieee.Fits.{down_pos}
use lib.Ieee.Exact.{HasValue}
use lib.Ieee.Scale.{round_same}
use Rattle.rules.proofs.Tests.{agree}

-- ==== two fractions A / c and B / c, equal to a / d and b / d
scaled-add : (A B a b c d : ℕ) → A * d ≡ a * c → B * d ≡ b * c → (A + B) * d ≡ (a + b) * c
scaled-add A B a b c d p q = add-mul A B d ∙ ap₂ (λ (x y : ℕ). x + y) p q ∙ sym (add-mul a b c)

less-mul : (a b c : ℕ) → (a - b) * c ≡ a * c - b * c
less-mul a b c = mul_comm (a - b) c ∙ mul-sub c a b ∙ ap₂ (λ (x y : ℕ). x - y) (mul_comm c a) (mul_comm c b)

scaled-less : (A B a b c d : ℕ) → A * d ≡ a * c → B * d ≡ b * c → (A - B) * d ≡ (a - b) * c
scaled-less A B a b c d p q = less-mul A B d ∙ ap₂ (λ (x y : ℕ). x - y) p q ∙ sym (less-mul a b c)

scaled-lt : (A B a b c d : ℕ) → A * d ≡ a * c → B * d ≡ b * c → 0 < d → A < B → a < b
scaled-lt A B a b c d p q D h = lt_of_mul-lt-mul_right c (subst (λ (x : ℕ). x < b * c) p (subst (λ (x : ℕ). A * d < x) q (mul-lt-mul_of_pos_right h D)))

scaled-below : (A B a b c d : ℕ) → A * d ≡ a * c → B * d ≡ b * c → 0 < c → 0 < d → ltb A B ≡ ltb a b
scaled-below A B a b c d p q C D =
    agree (ltb A B) (ltb a b)
    (λ t. lt-ltb a b (scaled-lt A B a b c d p q D (ltb-true A B t)))
    (λ t. lt-ltb A B (scaled-lt a b A B d c (sym p) (sym q) C (ltb-true a b t)))

-- ==== the sum of two fractions, with their signs
pub sum_same : (f : Format) (s t : Bool) (A B a b c d : ℕ) → A * d ≡ a * c → B * d ≡ b * c → 0 < c → 0 < d → sum f s A t B c ≡ sum f s a t b d
unfolding sum
sum_same f s t A B a b c d p q C D =
    let e1 : round f s (A + B) c ≡ round f s (a + b) d = round_same f s (A + B) c (a + b) d C D (scaled-add A B a b c d p q) in
    let e2 : round f t (B - A) c ≡ round f t (b - a) d = round_same f t (B - A) c (b - a) d C D (scaled-less B A b a c d q p) in
    let l1 : ltb A B ≡ ltb a b = scaled-below A B a b c d p q C D in
    let l2 : ltb B A ≡ ltb b a = scaled-below B A b a c d q p C D in
    let e3 : round f (s && ltb b a) (A - B) c ≡ round f (s && ltb b a) (a - b) d = round_same f (s && ltb b a) (A - B) c (a - b) d C D (scaled-less A B a b c d p q) in
    ap (λ (x : Float). cond (beq s t) x (cond (ltb A B) (round f t (B - A) c) (round f (s && ltb B A) (A - B) c))) e1
    ∙ ap (λ (x : Bool). cond (beq s t) (round f s (a + b) d) (cond x (round f t (B - A) c) (round f (s && ltb B A) (A - B) c))) l1
    ∙ ap (λ (x : Float). cond (beq s t) (round f s (a + b) d) (cond (ltb a b) x (round f (s && ltb B A) (A - B) c))) e2
    ∙ ap (λ (x : Bool). cond (beq s t) (round f s (a + b) d) (cond (ltb a b) (round f t (b - a) d) (round f (s && x) (A - B) c))) l2
    ∙ ap (λ (x : Float). cond (beq s t) (round f s (a + b) d) (cond (ltb a b) (round f t (b - a) d) x)) e3

-- ==== floats of these values
-- m * 2 ^ e is a / d, so over the divisor of two floats it is a / d too
over-both : (M a d E G : ℕ) → M * d ≡ a * E → M * G * d ≡ a * (E * G)
over-both M a d E G h = mul_right_comm M G d ∙ ap (λ (x : ℕ). x * G) h ∙ mul_assoc a E G

over-both' : (M a d E G : ℕ) → M * d ≡ a * G → M * E * d ≡ a * (E * G)
over-both' M a d E G h = mul_right_comm M E d ∙ ap (λ (x : ℕ). x * E) h ∙ mul_right_comm a G E ∙ mul_assoc a E G

pub add-values : (f : Format) (x y : Float) (s t : Bool) (a b d : ℕ) → 0 < d → HasValue x s a d → HasValue y t b d → add f x y ≡ sum f s a t b d
unfolding add
add-values f nan y s t a b d D h k = absurd h
add-values f (inf u) y s t a b d D h k = absurd h
add-values f (fin u m e) nan s t a b d D h k = absurd k
add-values f (fin u m e) (inf v) s t a b d D h k = absurd k
add-values f (fin u m e) (fin v n g) s t a b d D h k =
    let A = m * up e * down g in
    let B = n * up g * down e in
    let c = down e * down g in
    ap₂ (λ (x y : Bool). sum f x A y B c) h.0 k.0
    ∙ sum_same f s t A B a b c d (over-both (m * up e) a d (down e) (down g) h.1) (over-both' (n * up g) b d (down e) (down g) k.1) (mul-pos (down_pos e) (down_pos g)) D

pub neg_value : (x : Float) (s : Bool) (a d : ℕ) → HasValue x s a d → HasValue (neg x) (not s) a d
unfolding neg
neg_value nan s a d h = absurd h
neg_value (inf u) s a d h = absurd h
neg_value (fin u m e) s a d h = (ap not h.0, h.1)

pub sub-values : (f : Format) (x y : Float) (s t : Bool) (a b d : ℕ) → 0 < d → HasValue x s a d → HasValue y t b d → sub f x y ≡ sum f s a (not t) b d
unfolding sub
sub-values f x y s t a b d D h k = add-values f x (neg y) s (not t) a b d D h (neg_value y t b d k)

below-same : (s t : Bool) (A B a b c d : ℕ) → A * d ≡ a * c → B * d ≡ b * c → 0 < c → 0 < d → below s A t B ≡ below s a t b
below-same false false A B a b c d p q C D = scaled-below A B a b c d p q C D
below-same false true A B a b c d p q C D = refl
below-same true false A B a b c d p q C D = scaled-below 0 (A + B) 0 (a + b) c d (omega arith) (scaled-add A B a b c d p q) C D
below-same true true A B a b c d p q C D = scaled-below B A b a c d q p C D

pub lt-values : (x y : Float) (s t : Bool) (a b d : ℕ) → 0 < d → HasValue x s a d → HasValue y t b d → lt x y ≡ below s a t b
unfolding lt
lt-values nan y s t a b d D h k = absurd h
lt-values (inf u) y s t a b d D h k = absurd h
lt-values (fin u m e) nan s t a b d D h k = absurd k
lt-values (fin u m e) (inf v) s t a b d D h k = absurd k
lt-values (fin u m e) (fin v n g) s t a b d D h k =
    let A = m * up e * down g in
    let B = n * up g * down e in
    ap₂ (λ (x y : Bool). below x A y B) h.0 k.0
    ∙ below-same s t A B a b (down e * down g) d (over-both (m * up e) a d (down e) (down g) h.1) (over-both' (n * up g) b d (down e) (down g) k.1) (mul-pos (down_pos e) (down_pos g)) D

-- ==== a whole number over a power of two
over-power : (M a E u : ℕ) → M * 1 ≡ a * E → M * 1 * u ≡ a * (1 * u * E)
over-power M a E u h = ap (λ (x : ℕ). x * u) h ∙ mul_right_comm a E u ∙ mul_assoc a u E ∙ ap (λ (x : ℕ). a * (x * E)) (sym (one-mul u))

alike : (s : Bool) → unlike s false ≡ s
alike true = refl
alike false = refl

pub div_value : (f : Format) (x : Float) (s : Bool) (a k : ℕ) → HasValue x s a 1 → div f x (fin false 1 (pos k)) ≡ round f s a (2 ^ k)
unfolding div
div_value f nan s a k h = absurd h
div_value f (inf u) s a k h = absurd h
div_value f (fin u m e) s a k h =
    ap (λ (t : Bool). round f t (m * up e * 1) (1 * 2 ^ k * down e)) (alike u ∙ h.0)
    ∙ round_same f s (m * up e * 1) (1 * 2 ^ k * down e) a (2 ^ k) (subst (λ (x : ℕ). 0 < x * down e) (sym (one-mul (2 ^ k))) (mul-pos (pow_pos k) (down_pos e))) (pow_pos k)
    (over-power (m * up e) a (down e) (2 ^ k) h.1)
