-- Bits written and read again: a number's bits, packed in bytes, are the field that was written.
use mathlib.Core.Path.{◌≡◌, refl, sym, ap, ◌∙◌}
use mathlib.Core.Bool.{Bool, true}
use mathlib.Core.List.{List, [], ◌∷◌}
use Prim.Native.Nat.{ℕ, zero, suc, ◌+◌, ◌-◌, ◌*◌, ◌/◌, ◌%◌, ◌^◌, ◌<◌}
use native.Mathlib.Nat.{add-zero, mul-suc, pow-zero, pow-suc, div-one, div-eq_of_lt, div-div-eq-div-mul}
use native.Mathlib.Decide.{dec_lt}
use native.Mathlib.Omega.{arith}
use lib.ListN.{length, get_or, drop, length-append, get_or-append, get_or-eq_default}
use lib.Seq.{get_or-drop, drop-drop, get_or-append-add}
use lib.Dec.{ltb}
use borrow.Author.Tests.{ltb-true, lt-ltb}
use Rattle.rules.specs.Lists.{all_of, joined}
use Rattle.rules.specs.File.{bit_at, field, length_of, bits_in, byte_of, packed, file_bytes}
use Rattle.rules.specs.Book.{dim, count}
use Rattle.rules.specs.Calls.{written, write_length}
use Rattle.rules.proofs.Tests.{left, right, all-place, all_append}

-- every bit is 0 or 1
abbrev pub Bits : List ℕ → Type 0
Bits bs = all_of (λ b. ltb b 2) bs ≡ true

pub bit-small : (bs : List ℕ) → Bits bs → (j : ℕ) → get_or bs j 0 < 2
bit-small bs h j =
    elim (dec_lt j (length bs)) [
      | yes l ↦ ltb-true _ _ (all-place (λ b. ltb b 2) bs 0 h j l)
      | no n ↦ let e : get_or bs j 0 ≡ 0 = get_or-eq_default bs 0 {n = j} (omega arith) in omega arith
    ]

-- ---- bytes
byte-bit : (bs : List ℕ) → ((j : ℕ) → get_or bs j 0 < 2) → (j : ℕ) → j < 8 → byte_of bs / 2 ^ (7 - j) % 2 ≡ get_or bs j 0
unfolding byte_of
byte-bit bs s zero l = omega (arith, s 0, s 1, s 2, s 3, s 4, s 5, s 6, s 7)
byte-bit bs s (suc zero) l = omega (arith, s 0, s 1, s 2, s 3, s 4, s 5, s 6, s 7)
byte-bit bs s (suc (suc zero)) l = omega (arith, s 0, s 1, s 2, s 3, s 4, s 5, s 6, s 7)
byte-bit bs s (suc (suc (suc zero))) l = omega (arith, s 0, s 1, s 2, s 3, s 4, s 5, s 6, s 7)
byte-bit bs s (suc (suc (suc (suc zero)))) l = omega (arith, s 0, s 1, s 2, s 3, s 4, s 5, s 6, s 7)
byte-bit bs s (suc (suc (suc (suc (suc zero))))) l = omega (arith, s 0, s 1, s 2, s 3, s 4, s 5, s 6, s 7)
byte-bit bs s (suc (suc (suc (suc (suc (suc zero)))))) l = omega (arith, s 0, s 1, s 2, s 3, s 4, s 5, s 6, s 7)
byte-bit bs s (suc (suc (suc (suc (suc (suc (suc zero))))))) l = omega (arith, s 0, s 1, s 2, s 3, s 4, s 5, s 6, s 7)
byte-bit bs s (suc (suc (suc (suc (suc (suc (suc (suc j)))))))) l = absurd (omega arith)

pub packed-at : (n q : ℕ) (bs : List ℕ) → q < n → get_or (packed n bs) q 0 ≡ byte_of (drop (8 * q) bs)
unfolding packed
packed-at zero q bs l = absurd (omega arith)
packed-at (suc n) zero bs l = refl
packed-at (suc n) (suc q) bs l =
    let e : 8 * suc q ≡ 8 + 8 * q = omega arith in
    packed-at n q (drop 8 bs) (omega arith) ∙ rw (e, drop-drop (8 * q) 8 bs)

pub length-packed : (n : ℕ) (bs : List ℕ) → length (packed n bs) ≡ n
unfolding packed
length-packed zero bs = refl
length-packed (suc n) bs = ap suc (length-packed n (drop 8 bs))

pub packed-bit : (n : ℕ) (bs : List ℕ) → Bits bs → (i : ℕ) → i < 8 * n → bit_at (packed n bs) i ≡ get_or bs i 0
unfolding bit_at
packed-bit n bs h i l =
    let e : 8 * (i / 8) + i % 8 ≡ i = omega arith in
    let s : (j : ℕ) → get_or (drop (8 * (i / 8)) bs) j 0 < 2 = λ j. rw get_or-drop (bit-small bs h (8 * (i / 8) + j)) in
    rw (packed-at n (i / 8) bs (omega arith))
    (byte-bit (drop (8 * (i / 8)) bs) s (i % 8) (omega arith) ∙ get_or-drop (8 * (i / 8)) bs (i % 8) 0 ∙ ap (λ (x : ℕ). get_or bs x 0) e)

-- ---- a number's bits
pub length-bits_in : (w x : ℕ) → length (bits_in w x) ≡ w
unfolding bits_in
length-bits_in zero x = refl
length-bits_in (suc w) x = ap suc (length-bits_in w x)

pub bits-bits_in : (w x : ℕ) → Bits (bits_in w x)
unfolding bits_in all_of
bits-bits_in zero x = refl
bits-bits_in (suc w) x = rw (lt-ltb (x / 2 ^ w % 2) 2 (omega arith)) (bits-bits_in w x)

pub get_or-bits_in : (w x j : ℕ) → j < w → get_or (bits_in w x) j 0 ≡ x / 2 ^ (w - suc j) % 2
unfolding bits_in
get_or-bits_in zero x j l = absurd (omega arith)
get_or-bits_in (suc w) x zero l = let e : suc w - 1 ≡ w = omega arith in rw e
get_or-bits_in (suc w) x (suc j) l = let e : suc w - suc (suc j) ≡ w - suc j = omega arith in rw e (get_or-bits_in w x j (omega arith))

-- a field whose bits are those of x is x
module _ (f : List ℕ) (i w x : ℕ) (h : x < 2 ^ w) (bits : (j : ℕ) → j < w → bit_at f (i + j) ≡ get_or (bits_in w x) j 0) where
  field-first : (u v : ℕ) → u + v ≡ w → field f i u ≡ x / 2 ^ v
  unfolding field
  field-first zero v e = let q : v ≡ w = omega arith in rw q (sym (div-eq_of_lt h))
  field-first (suc u) v e =
      let a : field f i u ≡ x / 2 ^ v / 2 = field-first u (suc v) (omega arith) ∙ rw (pow-suc 2 v) (sym (div-div-eq-div-mul x (2 ^ v) 2)) in
      let q : w - suc u ≡ v = omega arith in
      let b : bit_at f (i + u) ≡ x / 2 ^ v % 2 = bits u (omega arith) ∙ rw q at (get_or-bits_in w x u (omega arith)) in
      omega arith

  pub field_is : field f i w ≡ x
  field_is = field-first w 0 (add-zero w) ∙ rw (pow-zero, div-one)

-- ---- rows of n members, one after another
module _ (n : ℕ) where
  pub length-joined : (rs : List (List ℕ)) → ((q : ℕ) → q < length rs → length (get_or rs q []) ≡ n) → length (joined rs) ≡ n * length rs
  unfolding joined
  length-joined [] h = omega arith
  length-joined (r ∷ rs) h =
      rw (length-append r (joined rs), mul-suc) (omega (arith, h 0 (omega arith), length-joined rs (λ q l. h (suc q) (omega arith))))

  pub get_or-joined : (rs : List (List ℕ)) → ((q : ℕ) → q < length rs → length (get_or rs q []) ≡ n) → (q j : ℕ) → q < length rs → j < n
      → get_or (joined rs) (n * q + j) 0 ≡ get_or (get_or rs q []) j 0
  unfolding joined
  get_or-joined [] h q j l k = absurd (omega arith)
  get_or-joined (r ∷ rs) h zero j l k =
      let e : n * 0 + j ≡ j = omega arith in
      let m : length r ≡ n = h 0 (omega arith) in
      rw e (get_or-append r (joined rs) 0 j (rw m k))
  get_or-joined (r ∷ rs) h (suc q) j l k =
      let m : length r ≡ n = h 0 (omega arith) in
      let e : n * suc q + j ≡ length r + (n * q + j) = rw mul-suc (omega arith) in
      rw e (get_or-append-add r (joined rs) (n * q + j) 0 ∙ get_or-joined rs (λ p o. h (suc p) (omega arith)) q j (omega arith) k)

pub all-joined : (p : ℕ → Bool) (rs : List (List ℕ)) → all_of (all_of p) rs ≡ true → all_of p (joined rs) ≡ true
unfolding joined
all-joined p [] h = unfold all_of in refl
all-joined p (r ∷ rs) h = all_append p r (joined rs) (unfold all_of in left _ _ h) (all-joined p rs (unfold all_of in right (all_of p r) _ h))

-- the file's length, from D and N_D
pub write-length : (ws : List ℕ) → write_length ws ≡ length_of (dim ws) (count ws (dim ws))
unfolding write_length written file_bytes
write-length ws = length-packed (length_of (dim ws) (count ws (dim ws))) _
