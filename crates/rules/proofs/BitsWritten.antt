-- Fields written into bytes: bytes with the same bits are the same bytes, so what is written is known by its bits.
use mathlib.Core.Path.{◌≡◌, refl, sym, ap, ◌∙◌}
use mathlib.Core.Bool.{Bool, true, false, cond, ◌&&◌}
use mathlib.Core.List.{List, map}
use Prim.Native.Nat.{ℕ, zero, suc, ◌+◌, ◌-◌, ◌*◌, ◌/◌, ◌%◌, ◌^◌, ◌≤◌, ◌<◌}
use native.Mathlib.Nat.{pow-zero, pow-suc, div-one, zero-div, div-div-eq-div-mul, mul_comm, mul_assoc, mul-one, mod-le, mod-mod, div-mul-le_self, mul-le-mul_right}
use native.Mathlib.Numerals.{add-one}
use native.Mathlib.Decide.{dec_lt, ℕ_discrete}
use native.Mathlib.Omega.{arith}
use lib.ListN.{length, get_or, set, drop, length-set, get_or-eq_default}
use lib.Seq.{ext_get_or, get_or-set_same, get_or-set_other}
use lib.Dec.{ltb, leb}
use borrow.Author.Tests.{lt-ltb, le-ltb, le-leb, lt-leb}
use Rattle.rules.specs.Lists.{up_to}
use Rattle.rules.specs.File.{bit_at, byte_of, packed, bit_with, with_field}
use Rattle.rules.proofs.Tests.{all-of, all_map}
use Rattle.rules.proofs.Numbered.{get_d_rows}
use Rattle.rules.proofs.Masks.{bit-half, bits-equal}
use Rattle.rules.proofs.Bits.{Bits, bit-small, length-packed, packed-at, packed-bit}

-- each member is a byte
abbrev pub Bytes : List ℕ → Type 0
Bytes bs = (i : ℕ) → get_or bs i 0 < 2 ^ 8

-- bit j of byte q, from the least significant
byte_at : (bs : List ℕ) (q j : ℕ) → j < 8 → bit_at bs (8 * q + (7 - j)) ≡ get_or bs q 0 / 2 ^ j % 2
unfolding bit_at
byte_at bs q j l =
    let d : (8 * q + (7 - j)) / 8 ≡ q = omega arith in
    let m : 7 - (8 * q + (7 - j)) % 8 ≡ j = omega arith in
    rw (d, m)

-- a bit past the end is 0
pub bit_past : (bs : List ℕ) (p : ℕ) → 8 * length bs ≤ p → bit_at bs p ≡ 0
unfolding bit_at
bit_past bs p l = let z : get_or bs (p / 8) 0 ≡ 0 = get_or-eq_default bs 0 (omega arith) in rw (z, zero_bit (2 ^ (7 - p % 8)))
  where
    zero_bit : (m : ℕ) → 0 / m % 2 ≡ 0
    zero_bit m = rw (zero-div m)

-- bytes with the same bits are the same
pub bytes_same : (xs ys : List ℕ) → Bytes xs → Bytes ys → length xs ≡ length ys → ((p : ℕ) → p < 8 * length xs → bit_at xs p ≡ bit_at ys p) → xs ≡ ys
bytes_same xs ys a b n h =
    ext_get_or 0 xs ys n (λ q l. bits-equal 8 (get_or xs q 0) (get_or ys q 0) (a q) (b q) (λ j k. sym (byte_at xs q j k) ∙ h (8 * q + (7 - j)) (omega arith) ∙ byte_at ys q j k))

byte-below : (bs : List ℕ) → ((j : ℕ) → get_or bs j 0 < 2) → byte_of bs < 2 ^ 8
unfolding byte_of
byte-below bs s = omega (arith, s 0, s 1, s 2, s 3, s 4, s 5, s 6, s 7)

pub bytes_packed : (n : ℕ) (bs : List ℕ) → Bits bs → Bytes (packed n bs)
bytes_packed n bs h i =
    elim (dec_lt i n) [
      | yes l ↦ rw (packed-at n i bs l) (byte-below (drop (8 * i) bs) (λ j. rw (lib.Seq.get_or-drop (8 * i) bs j 0) (bit-small bs h (8 * i + j))))
      | no l ↦ let z : get_or (packed n bs) i 0 ≡ 0 = get_or-eq_default (packed n bs) 0 (rw length-packed (omega arith)) in rw z (omega arith)
    ]

-- ---- the bytes with a field in them
module _ (bs : List ℕ) (i w x : ℕ) where
  pub length-with : length (with_field bs i w x) ≡ length bs
  unfolding with_field
  length-with = length-packed (length bs) _

  bit-with-small : (p : ℕ) → bit_with bs i w x p < 2
  unfolding bit_with bit_at
  bit-with-small p = go (leb i p && ltb p (i + w))
    where
      go : (b : Bool) → cond b (x / 2 ^ (i + w - suc p) % 2) (get_or bs (p / 8) 0 / 2 ^ (7 - p % 8) % 2) < 2
      go true = omega arith
      go false = omega arith

  bits-with : Bits (map (bit_with bs i w x) (up_to (8 * length bs)))
  bits-with = all_map (λ b. ltb b 2) (bit_with bs i w x) (up_to (8 * length bs)) (all-of _ (up_to (8 * length bs)) (λ p m. lt-ltb _ 2 (bit-with-small p)))

  pub with-bit : (p : ℕ) → p < 8 * length bs → bit_at (with_field bs i w x) p ≡ bit_with bs i w x p
  unfolding with_field
  with-bit p l = packed-bit (length bs) _ bits-with p l ∙ get_d_rows (bit_with bs i w x) (8 * length bs) p 0 l

  pub bytes-with : Bytes (with_field bs i w x)
  unfolding with_field
  bytes-with = bytes_packed (length bs) _ bits-with

  -- the bits of the field, and every other
  pub with_in : (p : ℕ) → p < 8 * length bs → i ≤ p → p < i + w → bit_at (with_field bs i w x) p ≡ x / 2 ^ (i + w - suc p) % 2
  with_in p l a b = with-bit p l ∙ unfold bit_with in rw (le-leb i p a, lt-ltb p (i + w) b)

  pub with-before : (p : ℕ) → p < 8 * length bs → p < i → bit_at (with_field bs i w x) p ≡ bit_at bs p
  with-before p l a = with-bit p l ∙ unfold bit_with in rw (lt-leb i p a)

  pub with-after : (p : ℕ) → p < 8 * length bs → i + w ≤ p → bit_at (with_field bs i w x) p ≡ bit_at bs p
  with-after p l a = with-bit p l ∙ unfold bit_with in rw (le-leb i p (omega arith), le-ltb p (i + w) a)

-- a field past the end changes nothing, and so does one of no bits
pub with-past : (bs : List ℕ) (i w x : ℕ) → Bytes bs → 8 * length bs ≤ i → with_field bs i w x ≡ bs
with-past bs i w x a l = bytes_same (with_field bs i w x) bs (bytes-with bs i w x) a (length-with bs i w x) (λ p m. let k : p < 8 * length bs = rw (length-with bs i w x) at m in with-before bs i w x p k (omega arith))

pub with_none : (bs : List ℕ) (i x : ℕ) → Bytes bs → with_field bs i 0 x ≡ bs
with_none bs i x a =
    bytes_same (with_field bs i 0 x) bs (bytes-with bs i 0 x) a (length-with bs i 0 x)
    (λ p m. let k : p < 8 * length bs = rw (length-with bs i 0 x) at m in at p k)
  where
    at : (p : ℕ) → p < 8 * length bs → bit_at (with_field bs i 0 x) p ≡ bit_at bs p
    at p k = elim (dec_lt p i) [ yes l ↦ with-before bs i 0 x p k l | no l ↦ with-after bs i 0 x p k (omega arith) ]

-- a field of one bit more: its first bits, and then its last
module _ (bs : List ℕ) (i w y : ℕ) where
  more-at : (p : ℕ) → p < 8 * length bs → bit_at (with_field (with_field bs i w (y / 2)) (i + w) 1 (y % 2)) p ≡ bit_at (with_field bs i (suc w) y) p
  more-at p l = elim (dec_lt p i) [
    | yes a ↦ with-before _ (i + w) 1 (y % 2) p k (omega arith) ∙ with-before bs i w (y / 2) p l a ∙ sym (with-before bs i (suc w) y p l a)
    | no a ↦ elim (dec_lt p (i + w)) [
      | yes b ↦
          let e : i + suc w - suc p ≡ suc (i + w - suc p) = omega arith in
          with-before _ (i + w) 1 (y % 2) p k b ∙ with_in bs i w (y / 2) p l (omega arith) b ∙ rw (← bit-half y (i + w - suc p), ← e) (sym (with_in bs i (suc w) y p l (omega arith) (omega arith)))
      | no b ↦ elim (dec_lt p (i + suc w)) [
        | yes d ↦
            let e : i + w + 1 - suc p ≡ 0 = omega arith in
            let g : i + suc w - suc p ≡ 0 = omega arith in
            with_in _ (i + w) 1 (y % 2) p k (omega arith) (omega arith) ∙ rw (e, pow-zero, div-one, mod-mod) (sym (with_in bs i (suc w) y p l (omega arith) d ∙ rw (g, pow-zero, div-one)))
        | no d ↦ with-after _ (i + w) 1 (y % 2) p k (omega arith) ∙ with-after bs i w (y / 2) p l (omega arith) ∙ sym (with-after bs i (suc w) y p l (omega arith))
      ]
    ]
  ]
    where
      k : p < 8 * length (with_field bs i w (y / 2))
      k = rw (length-with bs i w (y / 2)) l

  pub with-more : with_field (with_field bs i w (y / 2)) (i + w) 1 (y % 2) ≡ with_field bs i (suc w) y
  with-more =
      let n : length (with_field (with_field bs i w (y / 2)) (i + w) 1 (y % 2)) ≡ length bs = length-with (with_field bs i w (y / 2)) (i + w) 1 (y % 2) ∙ length-with bs i w (y / 2) in
      bytes_same _ _ (bytes-with _ (i + w) 1 (y % 2)) (bytes-with bs i (suc w) y) (n ∙ sym (length-with bs i (suc w) y)) (λ p l. more-at p (rw n at l))

-- ---- one bit of a byte
-- the byte v with its bit of weight 2^k set to b
abbrev pub changed : ℕ → ℕ → ℕ → ℕ
changed v k b = v - v / 2 ^ k % 2 * 2 ^ k + b * 2 ^ k

pub weight-below : (v k : ℕ) → v / 2 ^ k % 2 * 2 ^ k ≤ v
weight-below v k = omega (arith, mul-le-mul_right (2 ^ k) (mod-le (v / 2 ^ k) 2), div-mul-le_self v (2 ^ k))

changed-suc : (v k b : ℕ) → changed v (suc k) b ≡ 2 * changed (v / 2) k b + v % 2
changed-suc v k b =
    let m : (t : ℕ) → t * 2 ^ suc k ≡ 2 * (t * 2 ^ k) = λ t. rw (pow-suc 2 k, ← mul_assoc t (2 ^ k) 2) (mul_comm (t * 2 ^ k) 2) in
    let l = weight-below (v / 2) k in
    rw (m (v / 2 ^ suc k % 2), m b, bit-half v k) (omega arith)

changed-zero : (v b : ℕ) → changed v 0 b ≡ v - v % 2 + b
changed-zero v b = rw (pow-zero, div-one, mul-one, mul-one)

half-zero : (m : ℕ) → m / 2 ^ 0 % 2 ≡ m % 2
half-zero m = rw (pow-zero, div-one)

pub changed-same : (v k b : ℕ) → b < 2 → changed v k b / 2 ^ k % 2 ≡ b
changed-same v zero b h = half-zero (changed v 0 b) ∙ rw (changed-zero v b) (omega arith)
changed-same v (suc k) b h =
    let e : (2 * changed (v / 2) k b + v % 2) / 2 ≡ changed (v / 2) k b = omega arith in
    rw (bit-half (changed v (suc k) b) k, changed-suc v k b, e) (changed-same (v / 2) k b h)

pub changed-other : (v k b j : ℕ) → b < 2 → (j ≡ k → ⊥) → changed v k b / 2 ^ j % 2 ≡ v / 2 ^ j % 2
changed-other v zero b zero h n = absurd (n refl)
changed-other v zero b (suc j) h n =
    let e : (v - v % 2 + b) / 2 ≡ v / 2 = omega arith in
    rw (bit-half (changed v 0 b) j, changed-zero v b, e, bit-half v j)
changed-other v (suc k) b zero h n = half-zero (changed v (suc k) b) ∙ rw (changed-suc v k b) (omega arith) ∙ sym (half-zero v)
changed-other v (suc k) b (suc j) h n =
    let e : (2 * changed (v / 2) k b + v % 2) / 2 ≡ changed (v / 2) k b = omega arith in
    rw (bit-half (changed v (suc k) b) j, changed-suc v k b, e, bit-half v j) (changed-other (v / 2) k b j h (λ q. n (ap suc q)))

pub changed-below : (n v k b : ℕ) → v < 2 ^ n → k < n → b < 2 → changed v k b < 2 ^ n
changed-below zero v k b l m h = absurd (omega arith)
changed-below (suc n) v zero b l m h = let e : 2 ^ suc n ≡ 2 ^ n * 2 = pow-suc 2 n in rw (changed-zero v b) (omega arith)
changed-below (suc n) v (suc k) b l m h =
    let e : 2 ^ suc n ≡ 2 ^ n * 2 = pow-suc 2 n in
    let i = changed-below n (v / 2) k b (omega arith) (omega arith) h in
    rw (changed-suc v k b) (omega arith)

-- a bit set in its byte is a field of one bit
module _ (bs : List ℕ) (a : Bytes bs) (p b : ℕ) (h : b < 2) (l : p / 8 < length bs) where
  abbrev byte : ℕ
  byte = changed (get_or bs (p / 8) 0) (7 - p % 8) b

  set-bytes : Bytes (set bs (p / 8) byte)
  set-bytes i = elim (ℕ_discrete i (p / 8)) [
    | yes e ↦ rw (e, get_or-set_same bs (p / 8) byte 0 l) (changed-below 8 (get_or bs (p / 8) 0) (7 - p % 8) b (a (p / 8)) (omega arith) h)
    | no n ↦ rw (get_or-set_other bs (p / 8) i byte 0 n) (a i)
  ]

  set_at : (q : ℕ) → q < 8 * length bs → bit_at (set bs (p / 8) byte) q ≡ bit_at (with_field bs p 1 b) q
  unfolding bit_at
  set_at q k = elim (ℕ_discrete (q / 8) (p / 8)) [
    | no n ↦ rw (get_or-set_other bs (p / 8) (q / 8) byte 0 n) (sym (other (λ e. n (ap (λ x. x / 8) e))))
    | yes e ↦ elim (ℕ_discrete q p) [
      | yes d ↦ rw (e, get_or-set_same bs (p / 8) byte 0 l, d) (changed-same (get_or bs (p / 8) 0) (7 - p % 8) b h ∙ sym own)
      | no d ↦ rw (e, get_or-set_same bs (p / 8) byte 0 l) (changed-other (get_or bs (p / 8) 0) (7 - p % 8) b (7 - q % 8) h (omega arith) ∙ rw (← e) (sym (other d)))
    ]
  ]
    where
      own : bit_at (with_field bs p 1 b) p ≡ b
      own = let e : p + 1 - suc p ≡ 0 = omega arith in with_in bs p 1 b p (omega arith) (omega arith) (omega arith) ∙ rw (e, pow-zero, div-one) (omega arith)

      other : (q ≡ p → ⊥) → bit_at (with_field bs p 1 b) q ≡ get_or bs (q / 8) 0 / 2 ^ (7 - q % 8) % 2
      other n = elim (dec_lt q p) [ yes m ↦ with-before bs p 1 b q k m | no m ↦ with-after bs p 1 b q k (omega arith) ]

  pub set-with : set bs (p / 8) byte ≡ with_field bs p 1 b
  set-with =
      let n : length (set bs (p / 8) byte) ≡ length bs = length-set bs (p / 8) byte in
      bytes_same _ _ set-bytes (bytes-with bs p 1 b) (n ∙ sym (length-with bs p 1 b)) (λ q k. set_at q (rw n at k))

-- the first j bits of a field of w, and one bit more
pub with-step : (bs : List ℕ) (i w j x : ℕ) → j < w
    → with_field (with_field bs i j (x / 2 ^ (w - j))) (i + j) 1 (x / 2 ^ (w - 1 - j) % 2) ≡ with_field bs i (j + 1) (x / 2 ^ (w - (j + 1)))
with-step bs i w j x l =
    let e : w - j ≡ suc (w - 1 - j) = omega arith in
    let g : w - (j + 1) ≡ w - 1 - j = omega arith in
    rw (e, g, add-one j, pow-suc 2 (w - 1 - j), ← div-div-eq-div-mul x (2 ^ (w - 1 - j)) 2) (with-more bs i j (x / 2 ^ (w - 1 - j)))
