-- Steps and closures over whole counts: a step lies from −1/2 to below 1/2, and a closure is −1, 0 or 1 of a turn.
use mathlib.Core.Path.{◌≡◌, refl, sym, ap, ap₂, ◌∙◌, subst}
use mathlib.Core.Logic.{◌⊎◌, inl, inr}
use mathlib.Core.Bool.{Bool, true, false, ◌||◌, true≢false}
use Prim.Native.Nat.{ℕ, suc, ◌+◌, ◌-◌, ◌*◌, ◌^◌, ◌≤◌, ◌<◌}
use native.Mathlib.Omega.{arith}
use lib.Dec.{T, ltb, leb, ltb→lt, leb→le}
use lib.IntN.{ℤ, pos, negsuc, nat_abs, sub_ℕ, ◌+ℤ◌, ◌-ℤ◌, ◌*ℤ◌}
use lib.Signed.{quot_z}
use lib.Ieee.Fits.{and_l, and_r}
use borrow.Author.Tests.{ltb-true, ltb-false, lt-ltb, le-leb, ne_eqb}
use Rattle.rules.proofs.Compared.{order, lt-or-le}
use Rattle.rules.proofs.Tests.{cases}
use Rattle.rules.specs.Phases.{masked, phased, counted, wrapped, step_count, closure_count, closure_of}
use Rattle.rules.proofs.Differences.{less-neg, less-pos, less-same, less_none, less-add, less-less, less-lt}

-- ==== a count of a phase, as a number from 0 to 65,535 less 32,768
pub record Shifted (k : ℤ) : Type 0 where
  pub number : ℕ
  pub below : number < 65536
  pub is : k ≡ sub_ℕ number 32768

pub shifted : (k : ℤ) → T (phased k) → Shifted k
unfolding phased
shifted (pos a) t = let h : a < 32768 = ltb→lt a 32768 (and_r true (ltb a 32768) t) in record { number = a + 32768; below = omega arith; is = ap pos (omega arith) ∙ sym (less-pos (a + 32768) 32768 (omega arith)) }
shifted (negsuc a) t = let h : a ≤ 32767 = leb→le a 32767 (and_l (leb a 32767) true t) in record { number = 32767 - a; below = omega arith; is = ap negsuc (omega arith) ∙ sym (less-neg (32767 - a) 32768 (omega arith)) }

-- ==== a step between two such counts: a turn is added, or taken away, or neither
pub record Wrapped (x y : ℕ) (s : ℤ) : Type 0 where
  pub more : ℕ
  pub less : ℕ
  pub is : s ≡ sub_ℕ (y + 65536 * more) (x + 65536 * less)
  pub low : x + 65536 * less ≤ y + 65536 * more + 32768
  pub high : y + 65536 * more < x + 65536 * less + 32768

pub wrapped-is : (x y : ℕ) → x < 65536 → y < 65536 → Wrapped x y (wrapped (sub_ℕ y x))
unfolding wrapped
wrapped-is x y X Y = elim (cases (ltb (y + 32768) (0 + x))) [
  | inl t ↦ record { more = 1; less = 0; is = rw (less-lt y x 0 32768, t) (less-add y x 65536 0); low = omega (arith, ltb-true (y + 32768) (0 + x) t); high = omega (arith, ltb-true (y + 32768) (0 + x) t) }
  | inr t ↦ elim (cases (ltb (y + 0) (32768 + x))) [
    | inl u ↦ record { more = 0; less = 0; is = rw (less-lt y x 0 32768, t, less-lt y x 32768 0, u) (less-same y x (y + 0) (x + 0) (omega arith)); low = omega (arith, ltb-false (y + 32768) (0 + x) t); high = omega (arith, ltb-true (y + 0) (32768 + x) u) }
    | inr u ↦ record { more = 0; less = 1; is = rw (less-lt y x 0 32768, t, less-lt y x 32768 0, u) (less-less y x 65536 0); low = omega (arith, ltb-false (y + 0) (32768 + x) u); high = omega (arith, ltb-false (y + 0) (32768 + x) u) }
  ]
]

pub step_is : (k j : ℤ) (p : Shifted k) (q : Shifted j) → Wrapped p.number q.number (step_count k j)
unfolding step_count
step_is k j p q =
    let x = p.number in
    let y = q.number in
    subst (Wrapped x y)
    (ap wrapped (sym (ap₂ (λ (m n : ℤ). m -ℤ n) q.is p.is ∙ less-less y 32768 x 32768 ∙ less-same (y + 32768) (32768 + x) y x (omega arith))))
    (wrapped-is x y p.below q.below)

-- a step is at least −1/2 and below 1/2: one turn is enough
near : (a b : ℕ) → b ≤ a + 32768 → a < b + 32768 → T (phased (sub_ℕ a b))
unfolding phased
near a b l h = elim (lt-or-le a b) [
  | inl x ↦ subst (λ (s : ℤ). T (phased s)) (sym (less-neg a b x)) (rw (le-leb (b - suc a) 32767 (omega arith)) tt)
  | inr x ↦ subst (λ (s : ℤ). T (phased s)) (sym (less-pos a b x)) (rw (lt-ltb (a - b) 32768 (omega arith)) tt)
]

pub step-phased : (k j : ℤ) → T (phased k) → T (phased j) → T (phased (step_count k j))
step-phased k j K J =
    let p = shifted k K in
    let q = shifted j J in
    let w = step_is k j p q in
    subst (λ (s : ℤ). T (phased s)) (sym w.is) (near (q.number + 65536 * w.more) (p.number + 65536 * w.less) w.low w.high)

-- ==== the closure of three: a whole number of turns, and less than one and a half
pub closure-three : (a b c : ℤ) → T (phased a) → T (phased b) → T (phased c) → (closure_count a b c ≡ negsuc 65535) ⊎ ((closure_count a b c ≡ pos 0) ⊎ (closure_count a b c ≡ pos 65536))
unfolding closure_count
closure-three a b c A B C =
    let p = shifted a A in
    let q = shifted b B in
    let r = shifted c C in
    go p.number q.number r.number (step_count a b) (step_count b c) (step_count a c) (step_is a b p q) (step_is b c q r) (step_is a c p r)
  where
    go : (x y z : ℕ) (s t u : ℤ) → Wrapped x y s → Wrapped y z t → Wrapped x z u → (s +ℤ t -ℤ u ≡ negsuc 65535) ⊎ ((s +ℤ t -ℤ u ≡ pos 0) ⊎ (s +ℤ t -ℤ u ≡ pos 65536))
    go x y z s t u f g h =
        let P = y + 65536 * f.more + (z + 65536 * g.more) + (x + 65536 * h.less) in
        let Q = x + 65536 * f.less + (y + 65536 * g.less) + (z + 65536 * h.more) in
        let is : s +ℤ t -ℤ u ≡ sub_ℕ P Q =
        ap₂ (λ (m n : ℤ). m -ℤ n) (ap₂ (λ (m n : ℤ). m +ℤ n) f.is g.is ∙ less-add (y + 65536 * f.more) (x + 65536 * f.less) (z + 65536 * g.more) (y + 65536 * g.less)) h.is
        ∙ less-less (y + 65536 * f.more + (z + 65536 * g.more)) (x + 65536 * f.less + (y + 65536 * g.less)) (z + 65536 * h.more) (x + 65536 * h.less) in
        elim (order P Q) [
          | inl e ↦ inr (inl (is ∙ less-same P Q 0 0 (omega arith)))
          | inr d ↦ elim d [
            | inl l ↦ inl (is ∙ less-same P Q 0 65536 (omega arith))
            | inr l ↦ inr (inr (is ∙ less-same P Q 65536 0 (omega arith)))
          ]
        ]

-- ==== sizes
pub size_less : (a b m : ℕ) → a < b + m → b < a + m → nat_abs (sub_ℕ a b) < m
size_less a b m h g = elim (lt-or-le a b) [ inl l ↦ subst (λ (k : ℤ). nat_abs k < m) (sym (less-neg a b l)) (omega arith) | inr l ↦ subst (λ (k : ℤ). nat_abs k < m) (sym (less-pos a b l)) (omega arith) ]

pub size-count : (k : ℤ) → T (phased k) → nat_abs k < 2 ^ 53
size-count k t = let p = shifted k t in subst (λ (n : ℤ). nat_abs n < 2 ^ 53) (sym p.is) (size_less p.number 32768 (2 ^ 53) (omega (arith, p.below)) (omega arith))

pub size-difference : (k j : ℤ) → T (phased k) → T (phased j) → nat_abs (j -ℤ k) < 65536
size-difference k j K J =
    let p = shifted k K in
    let q = shifted j J in
    subst (λ (n : ℤ). nat_abs n < 65536) (sym (ap₂ (λ (m n : ℤ). m -ℤ n) q.is p.is ∙ less-less q.number 32768 p.number 32768))
    (size_less (q.number + 32768) (32768 + p.number) 65536 (omega (arith, p.below, q.below)) (omega (arith, p.below, q.below)))

pub size_step : (k j : ℤ) → T (phased k) → T (phased j) → nat_abs (step_count k j) ≤ 32768
size_step k j K J =
    let p = shifted k K in
    let q = shifted j J in
    let w = step_is k j p q in
    subst (λ (n : ℤ). nat_abs n ≤ 32768) (sym w.is) (le-of-lt-suc (size_less (q.number + 65536 * w.more) (p.number + 65536 * w.less) 32769 (omega (arith, w.high)) (omega (arith, w.low))))
  where
    le-of-lt-suc : {n : ℕ} → n < 32769 → n ≤ 32768
    le-of-lt-suc h = omega arith

pub size-add : (k j : ℤ) (m : ℕ) → nat_abs k + nat_abs j < m → nat_abs (k +ℤ j) < m
size-add (pos a) (pos b) m h = h
size-add (pos a) (negsuc b) m h = size_less a (suc b) m (omega arith) (omega arith)
size-add (negsuc a) (pos b) m h = size_less b (suc a) m (omega arith) (omega arith)
size-add (negsuc a) (negsuc b) m h = omega arith

-- ==== counts that may be lent
pub unmasked : (k : ℤ) → T (counted k) → masked k ≡ false → T (phased k)
unfolding counted
unmasked k t e = go (phased k) (masked k) t e
  where
    go : (p m : Bool) → T (p || m) → m ≡ false → T p
    go true m t e = tt
    go false true t e = absurd (true≢false e)
    go false false t e = t

-- ==== a closure is −1, 0 or 1, in whole turns of what it is over counts
pub record Whole (a b c : ℤ) : Type 0 where
  pub three : (closure_of a b c ≡ negsuc 0) ⊎ ((closure_of a b c ≡ pos 0) ⊎ (closure_of a b c ≡ pos 1))
  pub turns-of : closure_count a b c ≡ closure_of a b c *ℤ pos 65536

pub phased-unmasked : (k : ℤ) → T (phased k) → masked k ≡ false
unfolding phased masked
phased-unmasked (pos n) t = let h : n < 32768 = ltb→lt n 32768 t in ne_eqb n 65536 (λ e. omega arith)
phased-unmasked (negsuc n) t = refl

pub closure-whole : (a b c : ℤ) → T (phased a) → T (phased b) → T (phased c) → Whole a b c
unfolding closure_of
closure-whole a b c A B C =
    let e : closure_of a b c ≡ quot_z (closure_count a b c) (pos 65536) = rw (phased-unmasked a A, phased-unmasked b B, phased-unmasked c C) in
    elim (closure-three a b c A B C) [
      | inl h ↦ record { three = inl (rw (e, h)); turns-of = rw (e, h) }
      | inr d ↦ elim d [
        | inl h ↦ record { three = inr (inl (rw (e, h))); turns-of = rw (e, h) }
        | inr h ↦ record { three = inr (inr (rw (e, h))); turns-of = rw (e, h) }
      ]
    ]

-- ==== the four faces of a tetrahedron
-- an integer as a difference of two numbers
record Parted (k : ℤ) : Type 0 where
  more : ℕ
  less : ℕ
  is : k ≡ sub_ℕ more less

parted : (k : ℤ) → Parted k
parted (pos n) = record { more = n; less = 0; is = ap pos (omega arith) ∙ sym (less-pos n 0 (omega arith)) }
parted (negsuc n) = record { more = 0; less = suc n; is = ap negsuc (omega arith) ∙ sym (less-neg 0 (suc n) (omega arith)) }

-- a closure of steps, parted as they are
abbrev closure-parted : (s t u : ℤ) → Parted s → Parted t → Parted u → Parted (s +ℤ t -ℤ u)
closure-parted s t u S R U = record {
  more = S.more + R.more + U.less;
  less = S.less + R.less + U.more;
  is = rw (S.is, R.is, U.is) (rw (less-add S.more S.less R.more R.less, less-less (S.more + R.more) (S.less + R.less) U.more U.less));
}

-- four closures, added and taken away in turn: nothing is left exactly if so much was added as taken away
module _ (w x y z : ℤ) (W : Parted w) (X : Parted x) (Y : Parted y) (Z : Parted z) where
  abbrev added : ℕ
  added = W.more + X.less + Y.more + Z.less

  abbrev taken : ℕ
  taken = W.less + X.more + Y.less + Z.more

  four_is : w -ℤ x +ℤ y -ℤ z ≡ sub_ℕ added taken
  four_is =
      rw (W.is, X.is, Y.is, Z.is)
      (rw (
        less-less W.more W.less X.more X.less,
        less-add (W.more + X.less) (W.less + X.more) Y.more Y.less,
        less-less (W.more + X.less + Y.more) (W.less + X.more + Y.less) Z.more Z.less,
      ))

  four-none : added ≡ taken → w -ℤ x +ℤ y -ℤ z ≡ pos 0
  four-none e = four_is ∙ less-same added taken 0 0 (omega arith)

  none-four : w -ℤ x +ℤ y -ℤ z ≡ pos 0 → added ≡ taken
  none-four e = less_none added taken (sym four_is ∙ e)

-- each of the six steps goes in as often as it is taken away
counts-cancel : (a b c d : ℤ) → closure_count b c d -ℤ closure_count a c d +ℤ closure_count a b d -ℤ closure_count a b c ≡ pos 0
unfolding closure_count
counts-cancel a b c d =
    let ab = parted (step_count a b) in
    let ac = parted (step_count a c) in
    let ad = parted (step_count a d) in
    let bc = parted (step_count b c) in
    let bd = parted (step_count b d) in
    let cd = parted (step_count c d) in
    let bcd = closure-parted (step_count b c) (step_count c d) (step_count b d) bc cd bd in
    let acd = closure-parted (step_count a c) (step_count c d) (step_count a d) ac cd ad in
    let abd = closure-parted (step_count a b) (step_count b d) (step_count a d) ab bd ad in
    let abc = closure-parted (step_count a b) (step_count b c) (step_count a c) ab bc ac in
    four-none (closure_count b c d) (closure_count a c d) (closure_count a b d) (closure_count a b c) bcd acd abd abc (omega arith)

-- −1, 0 or 1 as a number less 1, and so many turns in 65,536ths
record Turned (k : ℤ) : Type 0 where
  number : ℕ
  is : k ≡ sub_ℕ number 1
  in_all : k *ℤ pos 65536 ≡ sub_ℕ (65536 * number) 65536

turned : (k : ℤ) → (k ≡ negsuc 0) ⊎ ((k ≡ pos 0) ⊎ (k ≡ pos 1)) → Turned k
turned k (inl e) = record { number = 0; is = e; in_all = rw e }
turned k (inr (inl e)) = record { number = 1; is = e; in_all = rw e }
turned k (inr (inr e)) = record { number = 2; is = e; in_all = rw e }

-- the closures of a tetrahedron's faces, with alternating signs, cancel
pub closures-cancel : (a b c d : ℤ) → T (phased a) → T (phased b) → T (phased c) → T (phased d)
    → closure_of b c d -ℤ closure_of a c d +ℤ closure_of a b d -ℤ closure_of a b c ≡ pos 0
closures-cancel a b c d A B C D =
    let bcd = closure-whole b c d B C D in
    let acd = closure-whole a c d A C D in
    let abd = closure-whole a b d A B D in
    let abc = closure-whole a b c A B C in
    let w = turned (closure_of b c d) bcd.three in
    let x = turned (closure_of a c d) acd.three in
    let y = turned (closure_of a b d) abd.three in
    let z = turned (closure_of a b c) abc.three in
    let even : 65536 * w.number + 65536 + 65536 * y.number + 65536 ≡ 65536 + 65536 * x.number + 65536 + 65536 * z.number
    = none-four (closure_count b c d) (closure_count a c d) (closure_count a b d) (closure_count a b c)
    (record { more = 65536 * w.number; less = 65536; is = bcd.turns-of ∙ w.in_all })
    (record { more = 65536 * x.number; less = 65536; is = acd.turns-of ∙ x.in_all })
    (record { more = 65536 * y.number; less = 65536; is = abd.turns-of ∙ y.in_all })
    (record { more = 65536 * z.number; less = 65536; is = abc.turns-of ∙ z.in_all })
    (counts-cancel a b c d) in
    four-none (closure_of b c d) (closure_of a c d) (closure_of a b d) (closure_of a b c)
    (record { more = w.number; less = 1; is = w.is })
    (record { more = x.number; less = 1; is = x.is })
    (record { more = y.number; less = 1; is = y.is })
    (record { more = z.number; less = 1; is = z.is })
    (omega (arith, even))
