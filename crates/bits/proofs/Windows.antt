-- Bytes beside each other as one number, and the field that stands in it.
use mathlib.Core.Path.{◌≡◌, refl, sym, ◌∙◌}
use mathlib.Core.List.{List}
use Prim.Native.Nat.{ℕ, suc, ◌+◌, ◌-◌, ◌*◌, ◌/◌, ◌%◌, ◌^◌, ◌<◌}
use native.Mathlib.Nat.{add-zero, mul-add-div, mul-add-mod_self_left, div-eq_of_lt, mod-eq_of_lt}
use native.Mathlib.Omega.{arith}
use lib.ListN.{get_or}
use Rattle.rules.specs.File.{bit_at, field, bits_in}
use Rattle.rules.proofs.Bits.{get_or-bits_in, field_is}
use Rattle.rules.proofs.BitsWritten.{Bytes}
use Rattle.rules.proofs.Fields.{field-split, field_below}
use Rattle.rules.proofs.Masks.{pow_pos}
use Rattle.bits.proofs.Counts.{touched-is}
use Rattle.bits.specs.Fetches.{there, touched, fetches, Window, Read}

-- a byte is the field of its eight bits
field-byte : (f : List ℕ) → Bytes f → (q : ℕ) → field f (8 * q) 8 ≡ get_or f q 0
unfolding bit_at
field-byte f a q = field_is f (8 * q) 8 (get_or f q 0) (a q) bit
  where
    bit : (j : ℕ) → j < 8 → bit_at f (8 * q + j) ≡ get_or (bits_in 8 (get_or f q 0)) j 0
    bit j l =
        let d : (8 * q + j) / 8 ≡ q = omega arith in
        let m : 7 - (8 * q + j) % 8 ≡ 8 - suc j = omega arith in
        rw (d, m) (sym (get_or-bits_in 8 (get_or f q 0) j l))

-- no bytes
pub window-none : (f : List ℕ) (at : ℕ) → Window f at 0 0 0
unfolding field there
window-none f at = record { number = refl; counted = omega arith }

-- one byte more
pub window_more : (f : List ℕ) → Bytes f → (at k : ℕ) → field f (8 * at) (8 * (k + 1)) ≡ 256 * field f (8 * at) (8 * k) + get_or f (at + k) 0
window_more f a at k =
    let e : 8 * (k + 1) ≡ 8 * k + 8 = omega arith in
    let g : 8 * at + 8 * k ≡ 8 * (at + k) = omega arith in
    rw e (field-split f (8 * at) (8 * k) 8 ∙ rw (g, field-byte f a (at + k)))

-- the field of w bits that has s bits before it and r after it
pub field-within : (f : List ℕ) (i s w r : ℕ) → field f i (s + w + r) / 2 ^ r % 2 ^ w ≡ field f (i + s) w
field-within f i s w r =
    rw (field-split f i (s + w) r, mul-add-div {m = 2 ^ r} (pow_pos r) (field f i (s + w)) (field f (i + (s + w)) r), div-eq_of_lt (field_below f (i + (s + w)) r), add-zero, field-split f i s w, mul-add-mod_self_left (2 ^ w) (field f i s) (field f (i + s) w))
    (mod-eq_of_lt (field_below f (i + s) w))

-- no bits
pub read_none : (f : List ℕ) (i : ℕ) → Read f i 0 0 0
unfolding field fetches there touched
read_none f i = record { number = refl; counted = omega arith }

-- the field, from the bytes that have a bit of it, with fewer than eight bits after it
pub read-within : (f : List ℕ) (i w n r v c : ℕ) {x d : ℕ} → 0 < w → r < 8 → i % 8 + w + r ≡ 8 * n → Window f (i / 8) n v c → (x ≡ v / 2 ^ r % 2 ^ w) × (d ≡ c) → Read f i w x d
unfolding fetches
read-within f i w n r v c l m e t p =
    let b : 8 * (i / 8) + i % 8 ≡ i = omega arith in
    let q : n ≡ (i % 8 + w + 7) / 8 = omega arith in
    record {
      number = p.0 ∙ rw (t.number, ← e) (field-within f (8 * (i / 8)) (i % 8) w r ∙ rw b);
      counted = p.1 ∙ t.counted ∙ rw (touched-is i w l, q);
    }
