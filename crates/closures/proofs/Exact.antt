-- Readings, steps and closures in floats are exactly those over whole counts.
use mathlib.Core.Path.{◌≡◌, refl, sym, ap, ◌∙◌, subst}
use mathlib.Core.Logic.{◌⊎◌, inl, inr}
use mathlib.Core.Bool.{Bool, true, false, cond, ◌||◌}
use Prim.Native.Nat.{◌^◌, ◌≤◌}
use native.Mathlib.Omega.{arith}
use lib.Dec.{T, lit<}
use borrow.Author.Tests.{ne_eqb}
use lib.IntN.{ℤ, pos, negsuc, nat_abs, ◌+ℤ◌, ◌-ℤ◌}
use lib.Signed.{lt_z, quot_z}
use lib.Ieee.{Float, fin, binary64, add, sub, div, of_int, of_bits}
use Rattle.rules.specs.Phases.{masked, phased, counted, wrapped, step_count, closure_count, closure_of, turns}
use Rattle.closures.specs.Steps.{reading_of, step_of, wrapped_turns, whole_turns, step_between, closure_between}
use Rattle.closures.specs.declared.values.Reading.TheVariants as readings
use Rattle.closures.specs.declared.values.Step.TheVariants as steps
use Rattle.closures.proofs.Turns.{Small, turns-exact, add-turns, sub-turns, lt-turns, div-turns}
use Rattle.closures.proofs.Literals.{none, one, one-back}
use Rattle.rules.proofs.PhaseCounts.{unmasked, closure-three, size-count, size-difference, size_step, size-add}

-- ==== steps
pick : (t : Bool) (k j : ℤ) → cond t (turns k) (turns j) ≡ turns (cond t k j)
pick true k j = refl
pick false k j = refl

wrapped-turns : (k : ℤ) → Small k → wrapped_turns (turns k) ≡ turns (wrapped k)
unfolding wrapped_turns wrapped
wrapped-turns k h =
    let x = turns-exact k h in
    rw (
      lt-turns (turns k) (turns (negsuc 32767)) k (negsuc 32767) x (turns-exact (negsuc 32767) (lit< tt)),
      lt-turns (turns k) (turns (pos 32768)) k (pos 32768) x (turns-exact (pos 32768) (lit< tt)),
      add-turns (turns k) (turns (pos 65536)) k (pos 65536) x (turns-exact (pos 65536) (lit< tt)),
      sub-turns (turns k) (turns (pos 65536)) k (pos 65536) x (turns-exact (pos 65536) (lit< tt)),
    )
    (ap (cond (lt_z k (negsuc 32767)) (turns (k +ℤ pos 65536))) (pick (lt_z k (pos 32768)) k (k -ℤ pos 65536)) ∙ pick (lt_z k (negsuc 32767)) (k +ℤ pos 65536) (cond (lt_z k (pos 32768)) k (k -ℤ pos 65536)))

pub step-turns : (k j : ℤ) → T (phased k) → T (phased j) → wrapped_turns (sub binary64 (turns j) (turns k)) ≡ turns (step_count k j)
unfolding step_count
step-turns k j K J =
    ap wrapped_turns (sub-turns (turns j) (turns k) j k (turns-exact j (size-count j J)) (turns-exact k (size-count k K)))
    ∙ wrapped-turns (j -ℤ k) (omega (arith, size-difference k j K J))

pub step-exact : (k j : ℤ) → T (counted k) → T (counted j) → step_between (reading_of k) (reading_of j) ≡ step_of k j
unfolding step_between reading_of step_of
step-exact k j K J = go (masked k) (masked j) refl refl
  where
    go : (m n : Bool) → masked k ≡ m → masked j ≡ n → step_between (cond m readings.Masked (readings.Phase (turns k))) (cond n readings.Masked (readings.Phase (turns j))) ≡ cond (m || n) steps.Masked (steps.Turns (turns (step_count k j)))
    go true n e f = refl
    go false true e f = refl
    go false false e f = ap steps.Turns (step-turns k j (unmasked k K e) (unmasked j J f))

-- ==== closures
whole-turns : (k : ℤ) → Small k → whole_turns (turns k) ≡ cond (lt_z k (pos 0)) (negsuc 0) (cond (lt_z (pos 0) k) (pos 1) (pos 0))
unfolding whole_turns
whole-turns k h =
    let x = turns-exact k h in
    let z = turns-exact (pos 0) (lit< tt) in
    rw (lt-turns (turns k) (turns (pos 0)) k (pos 0) x z, lt-turns (turns (pos 0)) (turns k) (pos 0) k z x)

three-turns : (k : ℤ) → (k ≡ negsuc 65535) ⊎ ((k ≡ pos 0) ⊎ (k ≡ pos 65536)) → whole_turns (turns k) ≡ quot_z k (pos 65536)
three-turns k (inl e) = subst (λ (n : ℤ). whole_turns (turns n) ≡ quot_z n (pos 65536)) (sym e) (whole-turns (negsuc 65535) (lit< tt))
three-turns k (inr (inl e)) = subst (λ (n : ℤ). whole_turns (turns n) ≡ quot_z n (pos 65536)) (sym e) (whole-turns (pos 0) (lit< tt))
three-turns k (inr (inr e)) = subst (λ (n : ℤ). whole_turns (turns n) ≡ quot_z n (pos 65536)) (sym e) (whole-turns (pos 65536) (lit< tt))

-- the float sum of the steps is exactly the closure
pub sum-turns : (a b c : ℤ) → T (phased a) → T (phased b) → T (phased c)
    → sub binary64 (add binary64 (turns (step_count a b)) (turns (step_count b c))) (turns (step_count a c)) ≡ turns (closure_count a b c)
unfolding closure_count
sum-turns a b c A B C =
    let s = step_count a b in
    let t = step_count b c in
    let u = step_count a c in
    let S : nat_abs s ≤ 32768 = size_step a b A B in
    let R : nat_abs t ≤ 32768 = size_step b c B C in
    let U : nat_abs u ≤ 32768 = size_step a c A C in
    let e : add binary64 (turns s) (turns t) ≡ turns (s +ℤ t) = add-turns (turns s) (turns t) s t (turns-exact s (omega arith)) (turns-exact t (omega arith)) in
    let v = turns-exact (s +ℤ t) (size-add s t (2 ^ 53) (omega arith)) in
    ap (λ (x : Float). sub binary64 x (turns u)) e
    ∙ sub-turns (turns (s +ℤ t)) (turns u) (s +ℤ t) u v (turns-exact u (omega arith))

-- so it is −1.0, +0.0 or 1.0
pub sum-three : (a b c : ℤ) → T (phased a) → T (phased b) → T (phased c)
    → let x = sub binary64 (add binary64 (turns (step_count a b)) (turns (step_count b c))) (turns (step_count a c)) in
    (x ≡ of_bits binary64 0xbff0_0000_0000_0000) ⊎ ((x ≡ of_bits binary64 0) ⊎ (x ≡ of_bits binary64 0x3ff0_0000_0000_0000))
sum-three a b c A B C = elim (closure-three a b c A B C) [
  | inl e ↦ inl (sum-turns a b c A B C ∙ ap turns e ∙ one-back)
  | inr (inl e) ↦ inr (inl (sum-turns a b c A B C ∙ ap turns e ∙ none))
  | inr (inr e) ↦ inr (inr (sum-turns a b c A B C ∙ ap turns e ∙ one))
]

closure-turns : (a b c : ℤ) → T (phased a) → T (phased b) → T (phased c)
    → whole_turns (sub binary64 (add binary64 (turns (step_count a b)) (turns (step_count b c))) (turns (step_count a c))) ≡ quot_z (closure_count a b c) (pos 65536)
closure-turns a b c A B C = ap whole_turns (sum-turns a b c A B C) ∙ three-turns (closure_count a b c) (closure-three a b c A B C)

pub closure-exact : (a b c : ℤ) → T (counted a) → T (counted b) → T (counted c) → closure_between (step_of a b) (step_of b c) (step_of a c) ≡ closure_of a b c
unfolding closure_between step_of closure_of
closure-exact a b c A B C = go (masked a) (masked b) (masked c) refl refl refl
  where
    go : (l m n : Bool) → masked a ≡ l → masked b ≡ m → masked c ≡ n
        → closure_between (cond (l || m) steps.Masked (steps.Turns (turns (step_count a b)))) (cond (m || n) steps.Masked (steps.Turns (turns (step_count b c)))) (cond (l || n) steps.Masked (steps.Turns (turns (step_count a c))))
        ≡ cond (l || (m || n)) (pos 2) (quot_z (closure_count a b c) (pos 65536))
    go true m n e f g = refl
    go false true n e f g = refl
    go false false true e f g = refl
    go false false false e f g = closure-turns a b c (unmasked a A e) (unmasked b B f) (unmasked c C g)

-- ==== readings
pub reading-masked : (k : ℤ) → k ≡ pos 65536 → readings.Masked ≡ reading_of k
unfolding reading_of masked
reading-masked k e = subst (λ (n : ℤ). readings.Masked ≡ reading_of n) (sym e) refl

other : (k : ℤ) → (k ≡ pos 65536 → ⊥) → masked k ≡ false
unfolding masked
other (pos n) d = ne_eqb n 65536 (λ e. d (ap pos e))
other (negsuc n) d = refl

-- the 65,536.0 that the code divides by
divisor : of_bits binary64 0x40f0_0000_0000_0000 ≡ fin false 1 (pos 16)
unfolding of_bits
divisor = refl

pub reading-phase : (k : ℤ) → Small k → (k ≡ pos 65536 → ⊥) → readings.Phase (div binary64 (of_int binary64 k) (of_bits binary64 0x40f0_0000_0000_0000)) ≡ reading_of k
unfolding reading_of
reading-phase k h d = rw (divisor, div-turns k h, other k d)
