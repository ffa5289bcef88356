-- Bits of one byte replaced are a field, and a field is written piece after piece.
use mathlib.Core.Path.{◌≡◌, sym, ap, ◌∙◌}
use mathlib.Core.List.{List}
use Prim.Native.Nat.{ℕ, zero, suc, ◌+◌, ◌-◌, ◌*◌, ◌/◌, ◌%◌, ◌^◌, ◌≤◌, ◌<◌}
use native.Mathlib.Nat.{add-zero, add_assoc, mul-add, mul_comm, mul_assoc, mul-le-mul_left, mod-le, mod-lt, mul-add-div, div-eq_of_lt, div-add-mod, pow-zero, pow-suc, div-one, mod-one, mod-eq_of_lt, mul-add-mod_self_left}
use native.Mathlib.Numerals.{add-one}
use native.Mathlib.Omega.{arith}
use lib.ListN.{length, get_or, set, length-set}
use lib.Seq.{set-set, set-get_or, get_or-set_same}
use Rattle.rules.specs.File.{with_field}
use Rattle.rules.proofs.BitsWritten.{Bytes, changed, set-with, bytes-with, with_none, with-more, with-step}
use Rattle.rules.proofs.Masks.{pow_pos}
use Rattle.bits.specs.Patches.{patched}

-- the low bits of 2^k·u + r stay, and of u the n low bits become those of x
patched-at : (k n u r x : ℕ) → r < 2 ^ k → patched (2 ^ k * u + r) k n x ≡ 2 ^ k * (u - u % 2 ^ n + x % 2 ^ n) + r
unfolding patched
patched-at k n u r x l =
    let d : (2 ^ k * u + r) / 2 ^ k ≡ u = mul-add-div {m = 2 ^ k} (pow_pos k) u r ∙ rw (div-eq_of_lt l, add-zero) in
    let s : u - u % 2 ^ n + u % 2 ^ n ≡ u = omega (arith, mod-le u (2 ^ n)) in
    let e : 2 ^ k * u ≡ 2 ^ k * (u - u % 2 ^ n) + 2 ^ k * (u % 2 ^ n) = rw s at (mul-add (2 ^ k) (u - u % 2 ^ n) (u % 2 ^ n)) in
    rw (d, mul-add (2 ^ k) (u - u % 2 ^ n) (x % 2 ^ n), mul_comm (u % 2 ^ n) (2 ^ k), mul_comm (x % 2 ^ n) (2 ^ k)) (omega arith)

-- no bits replaced, and one
patched-none : (v k x : ℕ) → patched v k 0 x ≡ v
unfolding patched
patched-none v k x = rw (pow-zero, mod-one, mod-one) (omega arith)

patched-one : (v k b : ℕ) → b < 2 → patched v k 1 b ≡ changed v k b
unfolding patched
patched-one v k b h = rw (mod-eq_of_lt h)

-- the low n + 1 bits, from the low n of the half
low-more : (x n : ℕ) → x % 2 ^ suc n ≡ 2 * (x / 2 % 2 ^ n) + x % 2
low-more x n =
    let p : 2 ^ suc n ≡ 2 ^ n * 2 = pow-suc 2 n in
    let h : 2 ^ n * (x / 2 / 2 ^ n) + x / 2 % 2 ^ n ≡ x / 2 = div-add-mod (x / 2) (2 ^ n) in
    let c : 2 ^ n * 2 * (x / 2 / 2 ^ n) ≡ 2 * (2 ^ n * (x / 2 / 2 ^ n)) = rw (mul_comm (2 ^ n) 2, mul_assoc) in
    let e : 2 ^ n * 2 * (x / 2 / 2 ^ n) + (2 * (x / 2 % 2 ^ n) + x % 2) ≡ x = omega arith in
    let b : 2 * (x / 2 % 2 ^ n) + x % 2 < 2 ^ n * 2 = omega (arith, mod-lt (x / 2) (pow_pos n)) in
    rw p (ap (λ (y : ℕ). y % (2 ^ n * 2)) (sym e) ∙ mul-add-mod_self_left (2 ^ n * 2) (x / 2 / 2 ^ n) _ ∙ mod-eq_of_lt b)

-- n bits from one weight up, and the bit below them
module _ (v k n x : ℕ) where
  -- v above the weight, and below it
  abbrev u : ℕ
  u = v / 2 ^ k

  abbrev r : ℕ
  r = v % 2 ^ k

  -- what stands above the bit below them
  abbrev w : ℕ
  w = u / 2 - u / 2 % 2 ^ n + x / 2 % 2 ^ n

  small : r < 2 ^ k
  small = mod-lt v (pow_pos k)

  parts : (y : ℕ) → 2 ^ suc k * y + (2 ^ k * (u % 2) + r) ≡ 2 ^ k * (2 * y + u % 2) + r
  parts y = rw (pow-suc 2 k, mul-add (2 ^ k) (2 * y) (u % 2), ← mul_assoc (2 ^ k) 2 y) (omega arith)

  halves : 2 ^ suc k * (u / 2) + (2 ^ k * (u % 2) + r) ≡ v
  halves = let e : 2 * (u / 2) + u % 2 ≡ u = omega arith in parts (u / 2) ∙ rw e (div-add-mod v (2 ^ k))

  bits : 2 ^ k * (u % 2) + r < 2 ^ suc k
  bits = rw (pow-suc 2 k) (omega (arith, mul-le-mul_left {m = u % 2} {n = 1} (2 ^ k) (omega arith), small))

  high : patched v (suc k) n (x / 2) ≡ 2 ^ k * (2 * w + u % 2) + r
  high = ap (λ (y : ℕ). patched y (suc k) n (x / 2)) (sym halves) ∙ patched-at (suc k) n (u / 2) (2 ^ k * (u % 2) + r) (x / 2) bits ∙ parts w

  one : changed (2 ^ k * (2 * w + u % 2) + r) k (x % 2) ≡ 2 ^ k * (2 * w + x % 2) + r
  one =
      let e : 2 * w + u % 2 - (2 * w + u % 2) % 2 + x % 2 % 2 ≡ 2 * w + x % 2 = omega arith in
      sym (patched-one (2 ^ k * (2 * w + u % 2) + r) k (x % 2) (omega arith)) ∙ patched-at k 1 (2 * w + u % 2) r (x % 2) small ∙ ap (λ (y : ℕ). 2 ^ k * y + r) e

  all : patched v k (suc n) x ≡ 2 ^ k * (2 * w + x % 2) + r
  all =
      let e : u - u % 2 ^ suc n + x % 2 ^ suc n ≡ 2 * w + x % 2 = rw (low-more u n, low-more x n) (omega (arith, mod-le (u / 2) (2 ^ n))) in
      ap (λ (y : ℕ). patched y k (suc n) x) (sym (div-add-mod v (2 ^ k))) ∙ patched-at k (suc n) u r x small ∙ rw e

  patched-more : changed (patched v (suc k) n (x / 2)) k (x % 2) ≡ patched v k (suc n) x
  patched-more = rw high (one ∙ sym all)

-- bits replaced in one byte are a field
module _ (bs : List ℕ) (a : Bytes bs) (at : ℕ) (l : at < length bs) where
  -- v is the byte with the bits above replaced
  set_more : (from n x v : ℕ) → from + suc n ≤ 8 → set bs at v ≡ with_field bs (8 * at + from) n (x / 2) → set bs at (changed v (8 - from - suc n) (x % 2)) ≡ with_field bs (8 * at + from) (suc n) x
  set_more from n x v h above =
      let q : (8 * at + from + n) / 8 ≡ at = omega arith in
      let m : 7 - (8 * at + from + n) % 8 ≡ 8 - from - suc n = omega arith in
      let b : Bytes (set bs at v) = rw above (bytes-with bs (8 * at + from) n (x / 2)) in
      let s = rw (q, m, get_or-set_same bs at v 0 l) at (set-with (set bs at v) b (8 * at + from + n) (x % 2) (omega arith) (rw (q, length-set bs at v) l)) in
      sym (set-set bs at v _) ∙ s ∙ rw above (with-more bs (8 * at + from) n x)

  pub set-field : (from n x : ℕ) → from + n ≤ 8 → set bs at (patched (get_or bs at 0) (8 - from - n) n x) ≡ with_field bs (8 * at + from) n x
  set-field from zero x h = rw (patched-none (get_or bs at 0) (8 - from - 0) x) (set-get_or bs at 0 ∙ sym (with_none bs (8 * at + from) x a))
  set-field from (suc n) x h =
      let e : 8 - from - n ≡ suc (8 - from - suc n) = omega arith in
      rw (← patched-more (get_or bs at 0) (8 - from - suc n) n x) (set_more from n x _ h (rw e at (set-field from n (x / 2) (omega arith))))

  pub patched-fits : (from n x : ℕ) → from + n ≤ 8 → patched (get_or bs at 0) (8 - from - n) n x < 2 ^ 8
  patched-fits from n x h =
      let e : patched (get_or bs at 0) (8 - from - n) n x ≡ get_or (with_field bs (8 * at + from) n x) at 0 = sym (get_or-set_same bs at _ 0 l) ∙ rw (set-field from n x h) in
      rw e (bytes-with bs (8 * at + from) n x at)

-- the first j bits of a field of w, and n bits more
module _ (bs : List ℕ) (i w x j : ℕ) where
  left_after : (n : ℕ) → w - j - n ≡ w - (j + n)
  left_after n = omega arith

  left_below : (n : ℕ) → w - j - 1 - n ≡ w - 1 - (j + n)
  left_below n = omega arith

  with-next : (n : ℕ) → j + n ≤ w → with_field (with_field bs i j (x / 2 ^ (w - j))) (i + j) n (x / 2 ^ (w - (j + n))) ≡ with_field bs i (j + n) (x / 2 ^ (w - (j + n)))
  with-next zero l = rw (add-zero j) (with_none _ (i + j) _ (bytes-with bs i j (x / 2 ^ (w - j))))
  with-next (suc n) l =
      let s = rw (left_after n, left_below n, left_after (n + 1), add_assoc i j n) at (with-step (with_field bs i j (x / 2 ^ (w - j))) (i + j) (w - j) n x (omega arith)) in
      rw (← add-one n) (sym s ∙ rw (with-next n (omega arith)) (rw (add_assoc j n 1) at (with-step bs i w (j + n) x (omega arith))))

-- ---- a field written piece after piece
module _ (bs : List ℕ) (i w x : ℕ) where
  -- all but its last m bits stand
  abbrev pub Begun : ℕ → List ℕ → Type 0
  Begun m ys = ys ≡ with_field bs i (w - m) (x / 2 ^ m)

  pub begun : Bytes bs → Begun w bs
  begun a = let z : w - w ≡ 0 = omega arith in rw z (sym (with_none bs i _ a))

  pub next : (m n p : ℕ) (ys zs : List ℕ) → Begun (n + m) ys → zs ≡ with_field ys p n (x / 2 ^ m) → p ≡ i + (w - (n + m)) → n + m ≤ w → Begun m zs
  next m n p ys zs b z e l =
      let u : w - (w - (n + m)) ≡ n + m = omega arith in
      let v : w - (n + m) + n ≡ w - m = omega arith in
      let o : w - (w - m) ≡ m = omega arith in
      z ∙ rw (b, e) (rw (u, v, o) at (with-next bs i w x (w - (n + m)) n (omega arith)))

  pub last : (m p : ℕ) (ys zs : List ℕ) → Begun m ys → zs ≡ with_field ys p m x → p ≡ i + (w - m) → m ≤ w → zs ≡ with_field bs i w x
  last m p ys zs b z e l =
      let h : m + 0 ≡ m = add-zero m in
      let o : w - 0 ≡ w = omega arith in
      rw (o, pow-zero, div-one) at (next 0 m p ys zs (rw h b) (z ∙ rw (pow-zero, div-one)) (rw h e) (rw h l))
