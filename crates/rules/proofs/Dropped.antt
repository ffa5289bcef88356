-- Drop's words: on an assembled book, they are the book assembled without the relation of that key.
use mathlib.Core.Path.{◌≡◌, refl, sym, ap, ◌∙◌}
use mathlib.Core.Bool.{true, false}
use mathlib.Core.List.{List, [], ◌∷◌, ◌++◌, append_assoc, append-nil}
use Prim.Native.Nat.{ℕ, suc, ◌+◌, ◌-◌, ◌/◌, ◌^◌, ◌<◌}
use native.Mathlib.Nat.{le_refl}
use native.Mathlib.Omega.{arith}
use lib.ListN.{length, get_or, take, drop, length-append}
use lib.Seq.{take_at, drop-drop, drop_at}
use Rattle.rules.specs.Book.{dim, count, key, held, place, relation, relations}
use Rattle.rules.specs.Calls.{count_left, dropped}
use Rattle.rules.proofs.Masks.{named-less, named-rest}
use Rattle.rules.proofs.Assembled.{assembled, assembled-is, assembled-word, assembled-body, assembled-place, relations-held, head-word}
use Rattle.rules.proofs.Added.{relations-below, relations-more}

-- the head once the relation of key k, of n words, is gone
unfoldable pub head_less : List ℕ → ℕ → ℕ → List ℕ
head_less ws k n =
    let mask = get_or ws 1 0 - 2 ^ k in
    get_or ws 0 0 ∷ mask ∷ count_left ws mask 1 ∷ count_left ws mask 2 ∷ (get_or ws 4 0 - n) ∷ []

pub head_less-head : (head : List ℕ) → length head ≡ 5 → (t : List ℕ) (k n : ℕ) → head_less (head ++ t) k n ≡ head_less head k n
unfolding head_less count_left dim
head_less-head head five t k n = simp (head-word head five t 0 (omega arith), head-word head five t 1 (omega arith), head-word head five t 2 (omega arith), head-word head five t 3 (omega arith), head-word head five t 4 (omega arith))

pub held-gone : (ws : List ℕ) (k n : ℕ) → held ws k ≡ true → held (head_less ws k n) k ≡ false
unfolding held head_less
held-gone ws k n on = named-less (get_or ws 1 0) k on

pub held-rest : (ws : List ℕ) (k n : ℕ) → held ws k ≡ true → (j : ℕ) → (j ≡ k → ⊥) → held (head_less ws k n) j ≡ held ws j
unfolding held head_less
held-rest ws k n on j o = named-rest (get_or ws 1 0) k on j o

dropped-words : (ws : List ℕ) (d e : ℕ) → dropped ws d e
    ≡ head_less ws (key d e) (place ws (suc (key d e)) - place ws (key d e))
    ++ (take (place ws (key d e) - 5) (drop 5 ws) ++ take (get_or ws 4 0 - place ws (suc (key d e))) (drop (place ws (suc (key d e))) ws))
unfolding dropped head_less
dropped-words ws d e = refl

-- words that have r, n and s from their sixth on, without n
cut : (ws r n s free : List ℕ) (p q u : ℕ) → p ≡ 5 + length r → q ≡ p + length n → u ≡ q + length s → drop 5 ws ≡ (r ++ (n ++ s)) ++ free
    → take (p - 5) (drop 5 ws) ++ take (u - q) (drop q ws) ≡ r ++ s
cut ws r n s free p q u a b c h =
    let i : length r ≡ p - 5 = omega arith in
    let j : length s ≡ u - q = omega arith in
    let x : take (p - 5) (drop 5 ws) ≡ r = ap (take (p - 5)) (h ∙ append_assoc r (n ++ s) free) ∙ take_at r ((n ++ s) ++ free) (p - 5) i in
    let l : length (r ++ n) ≡ q - 5 = length-append r n ∙ omega arith in
    let y : drop q ws ≡ s ++ free =
    ap (λ (m : ℕ). drop m ws) e ∙ sym (drop-drop (q - 5) 5 ws) ∙ ap (drop (q - 5)) (h ∙ joins) ∙ drop_at (r ++ n) (s ++ free) (q - 5) l in
    rw (x, y, take_at s free (u - q) j)
  where
    e : q ≡ 5 + (q - 5)
    e = omega arith

    joins : (r ++ (n ++ s)) ++ free ≡ (r ++ n) ++ (s ++ free)
    joins = simp append_assoc

module _ (head : List ℕ) (five : length head ≡ 5) (rows : ℕ → List (List ℕ)) (free : List ℕ)
    (sizes : (k : ℕ) → k < 16 → held head k ≡ true → count head (k / 4) ≡ length (rows k))
    (used : get_or head 4 0 ≡ 5 + length (relations (held head) rows 16))
    (d e : ℕ) (l : key d e < 16) (on : held head (key d e) ≡ true) where
  abbrev size : ℕ
  size = length (relation (rows (key d e)))

  abbrev less : List ℕ
  less = head_less head (key d e) size

  -- the relations before, that of key k, and those after it
  parted : (rest : List ℕ) × (relations (held less) rows 16 ≡ relations (held less) rows (key d e) ++ rest)
      × (relations (held head) rows 16 ≡ relations (held less) rows (key d e) ++ (relation (rows (key d e)) ++ rest))
  parted = relations-more (held less) (held head) rows rows (key d e) (held-gone head (key d e) size on) on (λ j o. sym (held-rest head (key d e) size on j o)) (λ j o. refl) 16 l

  before : relations (held head) rows (key d e) ≡ relations (held less) rows (key d e)
  before = relations-below (held less) (held head) rows rows (key d e) (held-gone head (key d e) size on) on (λ j o. sym (held-rest head (key d e) size on j o)) (λ j o. refl) (key d e) (le_refl _)

  pub dropped-used : get_or less 4 0 ≡ 5 + length (relations (held less) rows 16)
  dropped-used =
      let p = ap length parted.1 ∙ length-append (relations (held less) rows (key d e)) parted.0 in
      let q = ap length parted.2 ∙ length-append (relations (held less) rows (key d e)) _ ∙ ap (λ (n : ℕ). length (relations (held less) rows (key d e)) + n) (length-append (relation (rows (key d e))) parted.0) in
      let w : get_or less 4 0 ≡ get_or head 4 0 - size = unfold head_less in refl in
      omega arith

  pub dropped-assembled : dropped (assembled head rows free) d e ≡ assembled less rows []
  dropped-assembled =
      let ws = assembled head rows free in
      let k = key d e in
      let r = relations (held less) rows k in
      let n = relation (rows k) in
      let s = parted.0 in
      let p : place ws k ≡ 5 + length r = assembled-place head five rows free sizes k (omega arith) ∙ ap (λ (x : List ℕ). 5 + length x) before in
      let q : place ws (suc k) ≡ place ws k + length n
      = assembled-place head five rows free sizes (suc k) l ∙ ap (λ (x : List ℕ). 5 + length x) (relations-held (held head) rows k on ∙ ap (λ (x : List ℕ). x ++ n) before) ∙ ap (λ (y : ℕ). 5 + y) (length-append r n) ∙ omega arith in
      let t : length (relations (held head) rows 16) ≡ length r + (length n + length s) = ap length parted.2 ∙ length-append r (n ++ s) ∙ ap (λ (y : ℕ). length r + y) (length-append n s) in
      let u : get_or ws 4 0 ≡ place ws (suc k) + length s = omega (arith, assembled-word head five rows free 4 (omega arith)) in
      let c : drop 5 ws ≡ (r ++ (n ++ s)) ++ free = assembled-body head five rows free ∙ ap (λ (x : List ℕ). x ++ free) parted.2 in
      let z : place ws (suc k) - place ws k ≡ size = omega arith in
      let w : head_less ws k size ≡ less = ap (λ (x : List ℕ). head_less x k size) (assembled-is head rows free) ∙ head_less-head head five _ k size in
      rw (dropped-words ws d e, z, w, cut ws r n s free (place ws k) (place ws (suc k)) (get_or ws 4 0) p q u c, assembled-is less rows [], append-nil, parted.1)
