-- What holds of any words below 2^32, right or not: D is at most 3, no key from 32 on is held, and no count or place is too large for a number of 64 bits.
use mathlib.Core.Path.{◌≡◌, sym, ◌∙◌}
use mathlib.Core.Bool.{Bool, true, false, cond, ◌&&◌}
use mathlib.Core.Logic.{inl, inr}
use mathlib.Core.List.{List, [], ◌∷◌}
use Prim.Native.Nat.{ℕ, zero, suc, ◌+◌, ◌-◌, ◌*◌, ◌/◌, ◌%◌, ◌^◌, ◌≤◌, ◌<◌}
use native.Mathlib.Nat.{eq-or-lt_of_le, pow-le-pow_right, div-eq_of_lt, mul-le-mul_left}
use native.Mathlib.Decide.{dec_lt}
use native.Mathlib.Numerals.{add-one}
use native.Mathlib.Omega.{arith}
use lib.ListN.{length, get_or, take, drop}
use lib.Dec.{eqb, ltb}
use Rattle.rules.specs.Book.{dim, count, key, named, held, place, offset, total, row_of, needs, most}
use Rattle.rules.proofs.FrameRule.{count-top, place-skipped, place-held}

-- a word names no key from 32 on
pub named_none : (mask k : ℕ) → mask < 2 ^ 32 → 32 ≤ k → named mask k ≡ false
unfolding named
named_none mask k m l =
    let p : 2 ^ 32 ≤ 2 ^ k = pow-le-pow_right {n = 2} (omega arith) {i = 32} {j = k} l in
    let z : mask / 2 ^ k ≡ 0 = div-eq_of_lt (omega arith) in
    rw z

-- the place behind a relation, as code goes from one to the next
module _ (ws : List ℕ) (k at : ℕ) (stands : at ≡ place ws k) where
  pub place-behind : (n x : ℕ) → held ws k ≡ true → n ≡ count ws (k / 4) → x ≡ get_or ws (at + n) 0 → at + n + 1 + x ≡ place ws (k + 1)
  unfolding total offset
  place-behind n x h e f =
      let y : x ≡ get_or ws (place ws k + count ws (k / 4)) 0 = cc in
      rw (add-one k, place-held ws k h) (omega arith)

  pub place-passed : held ws k ≡ false → at ≡ place ws (k + 1)
  place-passed h = rw add-one (stands ∙ sym (place-skipped ws k h))

  -- a row, and where it begins, as code reads them
  module _ (i n first : ℕ) (rows : n ≡ count ws (k / 4)) (begins : first ≡ get_or ws (at + i) 0) where
    pub row-begins : at + n + 1 + first ≡ place ws k + count ws (k / 4) + 1 + offset ws k i
    unfolding offset
    row-begins = rw (begins, rows, stands)

    pub row_words : (last : ℕ) → last ≡ get_or ws (at + (i + 1)) 0 → take (last - first) (drop (at + n + 1 + first) ws) ≡ row_of ws k i
    unfolding row_of offset
    row_words last ends = rw (ends, begins, rows, stands)

module _ (ws : List ℕ) (words : (i : ℕ) → get_or ws i 0 < 2 ^ 32) where
  pub dim-most : dim ws ≤ 3
  unfolding dim
  dim-most = omega (arith, words 0)

  held_none : (k : ℕ) → 32 ≤ k → held ws k ≡ false
  unfolding held
  held_none k l = named_none (get_or ws 1 0) k (words 1) l

  pub count-below : (d : ℕ) → count ws d < 2 ^ 32
  unfolding count
  count-below d = go (eqb d 0) (eqb d (dim ws))
    where
      go : (a b : Bool) → cond a (get_or ws 0 0 / 2 ^ 16 % 2 ^ 14) (cond b (get_or ws 0 0 / 2 ^ 3 % 2 ^ 13) (get_or ws (1 + d) 0)) < 2 ^ 32
      go true b = omega arith
      go false true = omega arith
      go false false = words (1 + d)

  pub place-most : (k : ℕ) → place ws k ≤ 5 + k * 2 ^ 33
  unfolding place
  place-most zero = omega arith
  place-most (suc k) = go (held ws k) (place-most k)
    where
      go : (b : Bool) → place ws k ≤ 5 + k * 2 ^ 33
          → place ws k + cond b (count ws (k / 4) + 1 + get_or ws (place ws k + count ws (k / 4)) 0) 0 ≤ 5 + suc k * 2 ^ 33
      go true h = omega (arith, count-below (k / 4), words (place ws k + count ws (k / 4)))
      go false h = omega arith

  -- past key 32 the place stays
  pub place_still : (k : ℕ) → 32 ≤ k → place ws k ≡ place ws 32
  place_still zero l = absurd (omega arith)
  place_still (suc k) l =
      elim (eq-or-lt_of_le l) [
        | inl e ↦ rw e
        | inr m ↦ place-skipped ws k (held_none k (omega arith)) ∙ place_still k (omega arith)
      ]

  -- so no place is high
  pub place-low : (k : ℕ) → place ws k < 2 ^ 40
  place-low k =
      elim (dec_lt k 32) [
        | yes l ↦ omega (arith, place-most k)
        | no g ↦ omega (arith, place_still k (omega arith), place-most 32)
      ]

-- a relation is made from at most three others
pub needs-few : (D d e : ℕ) → length (needs D d e) ≤ 3
unfolding needs
needs-few D d e = go (eqb e 0 && ltb 0 d) (eqb d D) (ltb d e) (ltb e d) (ltb 0 d)
  where
    go : (a b c f g : Bool) → length (cond a (cond b [] (key D 0 ∷ [])) (cond c (key e d ∷ []) (cond f (key d 0 ∷ key 0 e ∷ key e 0 ∷ []) (cond g (key d 0 ∷ key 0 d ∷ []) (key 0 D ∷ key D 0 ∷ []))))) ≤ 3
    go true true c f g = omega arith
    go true false c f g = omega arith
    go false b true f g = omega arith
    go false b false true g = omega arith
    go false b false false true = omega arith
    go false b false false false = omega arith

-- the bound on N_d is small
pub most-few : (D d : ℕ) → most D d ≤ 6
unfolding most
most-few D d = go (eqb D 2) (eqb d 1)
  where
    go : (a b : Bool) → cond a 3 (cond b 6 4) ≤ 6
    go true b = omega arith
    go false true = omega arith
    go false false = omega arith

pub most-times : (ws : List ℕ) (d : ℕ) → 0 < dim ws → most (dim ws) d * count ws (dim ws) < 2 ^ 32
most-times ws d p =
    let n : count ws (dim ws) ≤ 8192 = rw (count-top ws p) (omega arith) in
    let t = mul-le-mul_left (most (dim ws) d) n in
    omega (arith, most-few (dim ws) d)
