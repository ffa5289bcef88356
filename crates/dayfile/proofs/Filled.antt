-- Fields of 13 bits written one after another into cleared bytes are the bytes of a file, known by their bits.
use mathlib.Core.Path.{◌≡◌, refl, sym, ap, ◌∙◌}
use mathlib.Core.List.{List, [], ◌∷◌, ◌++◌, map}
use Prim.Native.Nat.{ℕ, suc, ◌+◌, ◌-◌, ◌*◌, ◌/◌, ◌≤◌, ◌<◌}
use native.Mathlib.Nat.{zero-div}
use native.Mathlib.Numerals.{add-one}
use native.Mathlib.Decide.{dec_lt}
use native.Mathlib.Omega.{arith}
use lib.ListN.{length, get_or, drop, replicate, length-replicate, get_or-replicate, get_or-append, get_or-eq_default}
use lib.Seq.{get_or-append-add, drop-cons, drop-length}
use lib.Dec.{ltb}
use Rattle.rules.specs.Lists.{all_of, joined}
use Rattle.rules.specs.File.{bit_at, bits_in, packed, with_field}
use Rattle.rules.proofs.Tests.{all-of, all_append, all_map}
use Rattle.rules.proofs.Bits.{Bits, length-packed, packed-bit, length-bits_in, bits-bits_in, get_or-bits_in, all-joined}
use Rattle.rules.proofs.BitsWritten.{Bytes, bit_past, bytes_same, bytes_packed, length-with, bytes-with, with_in, with-before, with-after, with-past}
use Rattle.dayfile.specs.Fields.{with_fields}

pub length_fields : (bs : List ℕ) (i : ℕ) (vs : List ℕ) → length (with_fields bs i vs) ≡ length bs
unfolding with_fields
length_fields bs i [] = refl
length_fields bs i (v ∷ vs) = length_fields (with_field bs i 13 v) (i + 13) vs ∙ length-with bs i 13 v

bytes-fields : (bs : List ℕ) (i : ℕ) (vs : List ℕ) → Bytes bs → Bytes (with_fields bs i vs)
unfolding with_fields
bytes-fields bs i [] h = h
bytes-fields bs i (v ∷ vs) h = bytes-fields (with_field bs i 13 v) (i + 13) vs (bytes-with bs i 13 v)

-- a turn of the loop, and its two ends
pub fields-step : (bs : List ℕ) (i k : ℕ) (vs : List ℕ) → k < length vs → with_fields bs i (drop k vs) ≡ with_fields (with_field bs i 13 (get_or vs k 0)) (i + 13) (drop (k + 1) vs)
fields-step bs i k vs l = rw (add-one k, drop-cons vs k 0 l) (unfold with_fields in refl)

pub fields-end : (bs : List ℕ) (i k : ℕ) (vs : List ℕ) → k ≡ length vs → with_fields bs i (drop k vs) ≡ bs
fields-end bs i k vs e = rw (e, drop-length vs) (unfold with_fields in refl)

pub fields-past : (bs : List ℕ) (i : ℕ) (vs : List ℕ) → Bytes bs → 8 * length bs ≤ i → with_fields bs i vs ≡ bs
unfolding with_fields
fields-past bs i [] h l = refl
fields-past bs i (v ∷ vs) h l = rw (with-past bs i 13 v h l) (fields-past bs (i + 13) vs h (omega arith))

-- ---- the bits before the fields, and those of the fields
fields-before : (bs : List ℕ) (i : ℕ) (vs : List ℕ) (p : ℕ) → p < 8 * length bs → p < i → bit_at (with_fields bs i vs) p ≡ bit_at bs p
unfolding with_fields
fields-before bs i [] p l h = refl
fields-before bs i (v ∷ vs) p l h =
    fields-before (with_field bs i 13 v) (i + 13) vs p (rw (length-with bs i 13 v) l) (omega arith) ∙ with-before bs i 13 v p l h

-- the bits of the vertices
abbrev bits_for : List ℕ → List ℕ
bits_for vs = joined (map (bits_in 13) vs)

fields-bit : (bs : List ℕ) (i : ℕ) (vs : List ℕ) → ((p : ℕ) → i ≤ p → bit_at bs p ≡ 0) → (p : ℕ) → p < 8 * length bs → i ≤ p → bit_at (with_fields bs i vs) p ≡ get_or (bits_for vs) (p - i) 0
unfolding with_fields joined
fields-bit bs i [] z p l h = z p h
fields-bit bs i (v ∷ vs) z p l h =
    elim (dec_lt p (i + 13)) [
      | yes k ↦
          let e : i + 13 - suc p ≡ 13 - suc (p - i) = omega arith in
          fields-before (with_field bs i 13 v) (i + 13) vs p m k ∙ with_in bs i 13 v p l h k
          ∙ rw e (sym (get_or-append (bits_in 13 v) (bits_for vs) 0 (p - i) (rw length-bits_in (omega arith)) ∙ get_or-bits_in 13 v (p - i) (omega arith)))
      | no k ↦
          let e : p - i ≡ length (bits_in 13 v) + (p - (i + 13)) = rw length-bits_in (omega arith) in
          fields-bit (with_field bs i 13 v) (i + 13) vs clear p m (omega arith) ∙ rw e (sym (get_or-append-add (bits_in 13 v) (bits_for vs) (p - (i + 13)) 0))
    ]
  where
    m : p < 8 * length (with_field bs i 13 v)
    m = rw (length-with bs i 13 v) l

    clear : (q : ℕ) → i + 13 ≤ q → bit_at (with_field bs i 13 v) q ≡ 0
    clear q g =
        elim (dec_lt q (8 * length bs)) [
          | yes k ↦ with-after bs i 13 v q k g ∙ z q (omega arith)
          | no k ↦ bit_past (with_field bs i 13 v) q (rw (length-with bs i 13 v) (omega arith))
        ]

-- ---- cleared bytes
abbrev zeros : ℕ → List ℕ
zeros n = replicate n 0

zero-byte : (n i : ℕ) → get_or (zeros n) i 0 ≡ 0
zero-byte n i =
    elim (dec_lt i n) [
      | yes l ↦ get_or-replicate n i 0 0 l
      | no l ↦ get_or-eq_default (zeros n) 0 (rw length-replicate (omega arith))
    ]

zero_bit : (n p : ℕ) → bit_at (zeros n) p ≡ 0
unfolding bit_at
zero_bit n p = rw (zero-byte n (p / 8), zero-div)

module _ (n h : ℕ) (vs : List ℕ) where
  abbrev cleared : List ℕ
  cleared = with_field (zeros n) 0 32 h

  abbrev wanted : List ℕ
  wanted = bits_in 32 h ++ bits_for vs

  cleared-length : length cleared ≡ n
  cleared-length = length-with (zeros n) 0 32 h ∙ length-replicate n 0

  bits-wanted : Bits wanted
  bits-wanted =
      all_append (λ b. ltb b 2) (bits_in 32 h) (bits_for vs) (bits-bits_in 32 h)
      (all-joined (λ b. ltb b 2) (map (bits_in 13) vs)
      (all_map (all_of (λ b. ltb b 2)) (bits_in 13) vs (all-of (λ x. all_of (λ b. ltb b 2) (bits_in 13 x)) vs (λ x i. bits-bits_in 13 x))))

  after-head : (p : ℕ) → 32 ≤ p → bit_at cleared p ≡ 0
  after-head p g =
      elim (dec_lt p (8 * n)) [
        | yes l ↦ with-after (zeros n) 0 32 h p (rw length-replicate l) (omega arith) ∙ zero_bit n p
        | no l ↦ bit_past cleared p (rw cleared-length (omega arith))
      ]

  filled-bit : (p : ℕ) → p < 8 * n → bit_at (with_fields cleared 32 vs) p ≡ bit_at (packed n wanted) p
  filled-bit p l = go ∙ sym (packed-bit n wanted bits-wanted p l)
    where
      m : p < 8 * length cleared
      m = rw cleared-length l

      go : bit_at (with_fields cleared 32 vs) p ≡ get_or wanted p 0
      go =
          elim (dec_lt p 32) [
            | yes k ↦
                let e : 0 + 32 - suc p ≡ 32 - suc p = omega arith in
                fields-before cleared 32 vs p m k ∙ with_in (zeros n) 0 32 h p (rw length-replicate l) (omega arith) (omega arith)
                ∙ rw e (sym (get_or-append (bits_in 32 h) (bits_for vs) 0 p (rw length-bits_in k) ∙ get_or-bits_in 32 h p k))
            | no k ↦
                let e : p ≡ length (bits_in 32 h) + (p - 32) = rw length-bits_in (omega arith) in
                fields-bit cleared 32 vs after-head p m (omega arith) ∙ sym (ap (λ (x : ℕ). get_or wanted x 0) e ∙ get_or-append-add (bits_in 32 h) (bits_for vs) (p - 32) 0)
          ]

  -- the head and the vertices written into cleared bytes
  pub filled : with_fields cleared 32 vs ≡ packed n wanted
  filled =
      let q : length (with_fields cleared 32 vs) ≡ n = length_fields cleared 32 vs ∙ cleared-length in
      bytes_same (with_fields cleared 32 vs) (packed n wanted) (bytes-fields cleared 32 vs (bytes-with (zeros n) 0 32 h)) (bytes_packed n wanted bits-wanted) (q ∙ sym (length-packed n wanted)) (λ p l. filled-bit p (rw q at l))
