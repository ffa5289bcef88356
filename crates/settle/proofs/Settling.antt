-- A block exchanged leaves less to settle: each of its words stands in its last place, and settling the rest gives the same words. A short part is set aside while the other moves past it.
use mathlib.Core.Path.{◌≡◌, refl, sym, ap, ◌∙◌}
use mathlib.Core.List.{List, ◌++◌}
use Prim.Native.Nat.{ℕ, ◌+◌, ◌-◌, ◌≤◌, ◌<◌, min}
use native.Mathlib.Decide.{dec_lt}
use native.Mathlib.Omega.{arith}
use lib.ListN.{length, get_or, take, drop, length-append, length-drop, get_or-append}
use lib.Seq.{get_or-take, get_or-drop, get_or-append-add, length-take-le, ext_get_or}
use Rattle.settle.specs.Settled.{Exchanged, Raised, Saved, PutBack, settled, lowered}

-- a word of a list and of what is put behind it
module _ (xs ys : List ℕ) (n : ℕ) (e : length xs ≡ n) (k : ℕ) where
  front : k < n → get_or (xs ++ ys) k 0 ≡ get_or xs k 0
  front l = get_or-append xs ys 0 k (rw e l)

  back : n ≤ k → get_or (xs ++ ys) k 0 ≡ get_or ys (k - n) 0
  back l =
      let s : length xs + (k - n) ≡ k = omega arith in
      let a = get_or-append-add xs ys (k - n) 0 in
      rw s at a

-- a part of the words set aside, and the first words of a copy put back
pub saved-part : (ws xs : List ℕ) (p n : ℕ) → p + n ≤ length ws → Saved (take n (drop p ws)) 0 (length (take n (drop p ws))) xs → Saved ws p n xs
saved-part ws xs p n l s =
    record {
      words = λ k m.
          s.words k (rw (length-take-le n (drop p ws) (rw length-drop (omega arith))) m)
          ∙ get_or-take n (drop p ws) (0 + k) 0 (omega arith) ∙ get_or-drop p ws (0 + k) 0 ∙ ap (λ (i : ℕ). get_or ws i 0) (omega arith);
    }

pub put-part : (ws xs vs : List ℕ) (p n : ℕ) → n ≤ length xs → PutBack ws p (take n xs) (length (take n xs)) vs → PutBack ws p xs n vs
put-part ws xs vs p n l b =
    let e : length (take n xs) ≡ n = length-take-le n xs l in
    record {
      size = b.size;
      words = λ k m. b.words k (rw e m) ∙ get_or-take n xs k 0 m;
      below = b.below;
      above = λ k m. b.above k (rw e m);
    }

module _ (ws : List ℕ) (p u t : ℕ) (low : p ≤ u) (mid : u ≤ t) (high : t ≤ length ws) where
  first : length (take p ws) ≡ p
  first = length-take-le p ws (omega arith)

  second : length (take (t - u) (drop u ws)) ≡ t - u
  second = length-take-le (t - u) (drop u ws) (rw length-drop (omega arith))

  third : length (take (u - p) (drop p ws)) ≡ u - p
  third = length-take-le (u - p) (drop p ws) (rw length-drop (omega arith))

  length-settled : length (settled p u t ws) ≡ length ws
  unfolding settled
  length-settled = simp (length-append, first, second, third, length-drop) (omega arith)

  -- the places before, the part brought forward, the part moved back, and the places behind
  settled-low : (k : ℕ) → k < p → get_or (settled p u t ws) k 0 ≡ get_or ws k 0
  unfolding settled
  settled-low k l = front (take p ws) _ p first k l ∙ get_or-take p ws k 0 l

  settled-new : (k : ℕ) → p ≤ k → k < p + (t - u) → get_or (settled p u t ws) k 0 ≡ get_or ws (u + (k - p)) 0
  unfolding settled
  settled-new k l m =
      back (take p ws) _ p first k l
      ∙ front (take (t - u) (drop u ws)) _ (t - u) second (k - p) (omega arith)
      ∙ get_or-take (t - u) (drop u ws) (k - p) 0 (omega arith) ∙ get_or-drop u ws (k - p) 0

  settled-old : (k : ℕ) → p + (t - u) ≤ k → k < t → get_or (settled p u t ws) k 0 ≡ get_or ws (p + (k - p - (t - u))) 0
  unfolding settled
  settled-old k l m =
      back (take p ws) _ p first k (omega arith)
      ∙ back (take (t - u) (drop u ws)) _ (t - u) second (k - p) (omega arith)
      ∙ front (take (u - p) (drop p ws)) (drop t ws) (u - p) third (k - p - (t - u)) (omega arith)
      ∙ get_or-take (u - p) (drop p ws) (k - p - (t - u)) 0 (omega arith) ∙ get_or-drop p ws (k - p - (t - u)) 0

  settled-high : (k : ℕ) → t ≤ k → get_or (settled p u t ws) k 0 ≡ get_or ws k 0
  unfolding settled
  settled-high k l =
      back (take p ws) _ p first k (omega arith)
      ∙ back (take (t - u) (drop u ws)) _ (t - u) second (k - p) (omega arith)
      ∙ back (take (u - p) (drop p ws)) (drop t ws) (u - p) third (k - p - (t - u)) (omega arith)
      ∙ get_or-drop t ws (k - p - (t - u) - (u - p)) 0 ∙ ap (λ (i : ℕ). get_or ws i 0) (omega arith)

  -- what has each of its words where it belongs is settled
  settled_is : (vs : List ℕ) → length vs ≡ length ws
      → ((k : ℕ) → k < p → get_or vs k 0 ≡ get_or ws k 0)
      → ((k : ℕ) → p ≤ k → k < p + (t - u) → get_or vs k 0 ≡ get_or ws (u + (k - p)) 0)
      → ((k : ℕ) → p + (t - u) ≤ k → k < t → get_or vs k 0 ≡ get_or ws (p + (k - p - (t - u))) 0)
      → ((k : ℕ) → t ≤ k → get_or vs k 0 ≡ get_or ws k 0)
      → vs ≡ settled p u t ws
  settled_is vs n before new old behind = ext_get_or 0 vs (settled p u t ws) (n ∙ sym length-settled) at
    where
      at : (k : ℕ) → k < length vs → get_or vs k 0 ≡ get_or (settled p u t ws) k 0
      at k m =
          elim (dec_lt k p) [
            | yes l ↦ before k l ∙ sym (settled-low k l)
            | no l ↦ elim (dec_lt k (p + (t - u))) [
              | yes h ↦ new k (omega arith) h ∙ sym (settled-new k (omega arith) h)
              | no h ↦ elim (dec_lt k t) [
                | yes b ↦ old k (omega arith) b ∙ sym (settled-old k (omega arith) b)
                | no b ↦ behind k (omega arith) ∙ sym (settled-high k (omega arith))
              ]
            ]
          ]

  length-lowered : length (lowered u t p ws) ≡ length ws
  unfolding lowered
  length-lowered = simp (length-append, first, second, length-drop) (omega arith)

  -- the places before, the part brought down, and the places behind it
  lowered-low : (k : ℕ) → k < p → get_or (lowered u t p ws) k 0 ≡ get_or ws k 0
  unfolding lowered
  lowered-low k l = front (take p ws) _ p first k l ∙ get_or-take p ws k 0 l

  lowered-new : (k : ℕ) → p ≤ k → k < p + (t - u) → get_or (lowered u t p ws) k 0 ≡ get_or ws (u + (k - p)) 0
  unfolding lowered
  lowered-new k l m =
      back (take p ws) _ p first k l
      ∙ front (take (t - u) (drop u ws)) _ (t - u) second (k - p) (omega arith)
      ∙ get_or-take (t - u) (drop u ws) (k - p) 0 (omega arith) ∙ get_or-drop u ws (k - p) 0

  lowered-high : (k : ℕ) → p + (t - u) ≤ k → get_or (lowered u t p ws) k 0 ≡ get_or ws k 0
  unfolding lowered
  lowered-high k l =
      back (take p ws) _ p first k (omega arith)
      ∙ back (take (t - u) (drop u ws)) _ (t - u) second (k - p) (omega arith)
      ∙ get_or-drop (p + (t - u)) ws (k - p - (t - u)) 0 ∙ ap (λ (i : ℕ). get_or ws i 0) (omega arith)

  -- the first part set aside, the second moved down, and the first put back behind it
  pub few-before : (xs ys vs : List ℕ) (to : ℕ) → ys ≡ lowered u t p ws → to ≡ p + (t - u) → Saved ws p (u - p) xs → PutBack ys to xs (u - p) vs
      → vs ≡ settled p u t ws
  few-before xs ys vs to e f x y =
      let z = rw (e, f) at y in
      settled_is vs (z.size ∙ length-lowered) (λ k l. z.below k (omega arith) ∙ lowered-low k l) (λ k l m. z.below k m ∙ lowered-new k l m)
      (λ k l m.
      ap (λ (i : ℕ). get_or vs i 0) (omega arith) ∙ z.words (k - p - (t - u)) (omega arith) ∙ x.words (k - p - (t - u)) (omega arith))
      (λ k l. z.above k (omega arith) ∙ lowered-high k (omega arith))

  -- the second part set aside, the first moved up, and the second put back before it
  pub few-behind : (xs ys vs : List ℕ) → Saved ws u (t - u) xs → Raised ws p u (t - u) ys → PutBack ys p xs (t - u) vs → vs ≡ settled p u t ws
  few-behind xs ys vs x r y =
      settled_is vs (y.size ∙ r.size) (λ k l. y.below k l ∙ r.below k (omega arith))
      (λ k l m. ap (λ (i : ℕ). get_or vs i 0) (omega arith) ∙ y.words (k - p) (omega arith) ∙ x.words (k - p) (omega arith))
      (λ k l m.
      y.above k l ∙ ap (λ (i : ℕ). get_or ys i 0) (omega arith)
      ∙ r.moved (p + (k - p - (t - u))) (omega arith) (omega arith))
      (λ k l. y.above k (omega arith) ∙ r.above k (omega arith))

module _ (ws : List ℕ) (p u t n : ℕ) (vs : List ℕ) (x : Exchanged ws p u n vs) (low : p + n ≤ u) (mid : u + n ≤ t) (high : t ≤ length ws) where
  inside : t ≤ length vs
  inside = omega (arith, x.size)

  -- a word of the first block, and of the second, at the place where it is looked for
  first-at : (i k : ℕ) → i ≡ p + k → k < n → get_or vs i 0 ≡ get_or ws (u + k) 0
  first-at i k e l = rw e (x.first k l)

  second_at : (i k : ℕ) → i ≡ u + k → k < n → get_or vs i 0 ≡ get_or ws (p + k) 0
  second_at i k e l = rw e (x.second k l)

  -- the block is all that stands before the middle, and the middle moves on with it
  exchanged-all : p + n ≡ u → settled (p + n) (u + n) t vs ≡ settled p u t ws
  exchanged-all e =
      let lo : p + n ≤ u + n = omega arith in
      settled_is ws p u t (omega arith) (omega arith) high (settled (p + n) (u + n) t vs) (length-settled vs (p + n) (u + n) t lo mid inside ∙ x.size)
      (λ k l. settled-low vs (p + n) (u + n) t lo mid inside k (omega arith) ∙ x.below k l)
      (λ k l m. elim (dec_lt k u) [
        | yes h ↦ settled-low vs (p + n) (u + n) t lo mid inside k (omega arith) ∙ first-at k (k - p) (omega arith) (omega arith)
        | no h ↦
            settled-new vs (p + n) (u + n) t lo mid inside k (omega arith) (omega arith)
            ∙ x.above (u + n + (k - (p + n))) (omega arith) ∙ ap (λ (i : ℕ). get_or ws i 0) (omega arith)
      ])
      (λ k l m. settled-old vs (p + n) (u + n) t lo mid inside k (omega arith) m ∙ second_at _ (k - p - (t - u)) (omega arith) (omega arith))
      (λ k l. settled-high vs (p + n) (u + n) t lo mid inside k l ∙ x.above k (omega arith))

  -- the block is all that stands behind the middle, which stays
  exchanged-part : u + n ≡ t → settled (p + n) u t vs ≡ settled p u t ws
  exchanged-part e =
      let m : u ≤ t = omega arith in
      settled_is ws p u t (omega arith) m high (settled (p + n) u t vs) (length-settled vs (p + n) u t low m inside ∙ x.size)
      (λ k l. settled-low vs (p + n) u t low m inside k (omega arith) ∙ x.below k l)
      (λ k l h. settled-low vs (p + n) u t low m inside k (omega arith) ∙ first-at k (k - p) (omega arith) (omega arith))
      (λ k l h. elim (dec_lt k (p + n + (t - u))) [
        | yes b ↦ settled-new vs (p + n) u t low m inside k (omega arith) b ∙ second_at _ (k - p - (t - u)) (omega arith) (omega arith)
        | no b ↦
            settled-old vs (p + n) u t low m inside k (omega arith) h
            ∙ x.between (p + n + (k - (p + n) - (t - u))) (omega arith) (omega arith) ∙ ap (λ (i : ℕ). get_or ws i 0) (omega arith)
      ])
      (λ k l. settled-high vs (p + n) u t low m inside k l ∙ x.above k (omega arith))

-- what is left to settle, of vs from p by the middle u up to t, gives what was wanted, of ws from a by the middle m
pub record Settling (ws : List ℕ) (a m t p u : ℕ) (vs : List ℕ) : Type 0 where
  pub low : p ≤ u
  pub high : u ≤ t
  pub size : length vs ≡ length ws
  pub words : settled p u t vs ≡ settled a m t ws

-- no block is exchanged yet
pub settling-none : (ws : List ℕ) (a m t : ℕ) → a ≤ m → m ≤ t → Settling ws a m t a m ws
settling-none ws a m t l h = record { low = l; high = h; size = refl; words = refl }

module _ {ws : List ℕ} {a m t p u : ℕ} {vs : List ℕ} (s : Settling ws a m t p u vs) (within : t ≤ length ws) where
  fits : t ≤ length vs
  fits = omega (arith, s.size)

  -- one block more, as long as the shorter part: the middle moves on with the front that reached it, or stays
  module _ {n : ℕ} {xs : List ℕ} (x : Exchanged vs p u n xs) (shorter : n ≡ min (u - p) (t - u)) where
    pub settling-all : p + n ≡ u → Settling ws a m t (p + n) (u + n) xs
    settling-all e = record {
      low = omega arith;
      high = omega (arith, s.high);
      size = x.size ∙ s.size;
      words = exchanged-all vs p u t n xs x (omega arith) (omega (arith, s.high)) fits e ∙ s.words;
    }

    pub settling-part : (p + n ≡ u → ⊥) → Settling ws a m t (p + n) u xs
    settling-part e =
        let l : p + n ≤ u = omega (arith, s.low) in
        let h : u + n ≡ t = omega (arith, s.low, s.high) in
        record {
          low = l;
          high = s.high;
          size = x.size ∙ s.size;
          words = exchanged-part vs p u t n xs x l (omega arith) fits h ∙ s.words;
        }
