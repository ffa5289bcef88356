-- Tests over keys, rows and words, as code goes through them one by one: what all passed, and what one failed, says of the whole.
use mathlib.Core.Path.{◌≡◌, refl, sym, ap, ◌∙◌}
use mathlib.Core.Bool.{Bool, true, false, ◌&&◌, false≢true}
use mathlib.Core.List.Memᴰ.{head as In·head}
use mathlib.Core.List.Memᴰ.{tail as In·tail}
use mathlib.Core.List.{List, [], ◌∷◌, ◌++◌, map, Memᴰ as In}
use Prim.Native.Nat.{ℕ, zero, suc, ◌+◌, ◌-◌, ◌≤◌, ◌<◌, min}
use native.Mathlib.Numerals.{add-one}
use native.Mathlib.Omega.{arith}
use native.Mathlib.Decide.{dec_lt}
use lib.ListN.{length, get_or, take, drop, length-take, length-drop, drop_of_length-le}
use lib.Seq.{ext_get_or, get_or-take, take_all, take-nil, take-suc}
use lib.Bits.{bit_or, or_add_and, and_le_l, and_le_r}
use lib.Dec.{eqb, ltb, leb}
use borrow.Author.Tests.{ltb-true, eqb-true, lt-ltb, le-ltb, le-leb, lt-leb, eq-eqb}
use Rattle.rules.specs.Lists.{up_to, all_of, keep, ascends, rises}
use Rattle.rules.proofs.Tests.{agree, left, right, and-of, all-of, all-at, all-place}
use Rattle.rules.proofs.Keep.{keep-of, keep-is, up_to-of, up_to-is}
use Rattle.rules.proofs.Numbered.{length-rows, get_d_rows}

-- a test that is not true is false
pub not_so : (b : Bool) → (b ≡ true → ⊥) → b ≡ false
not_so true f = absurd (f refl)
not_so false f = refl

module _ {ℓ} {A : Type ℓ} where
  -- a list is the rows that stand at its places
  pub rows_are : (f : ℕ → A) (n : ℕ) (xs : List A) (d : A) → length xs ≡ n → ((i : ℕ) → i < n → get_or xs i d ≡ f i) → xs ≡ map f (up_to n)
  rows_are f n xs d e h =
      ext_get_or d xs (map f (up_to n)) (e ∙ sym (length-rows f n))
      (λ i l. let m : i < n = omega (arith, e, l) in h i m ∙ sym (get_d_rows f n i d m))

  -- all pass
  pub all_are : (p : A → Bool) (xs : List A) (d : A) → ((i : ℕ) → i < length xs → p (get_or xs i d) ≡ true) → all_of p xs ≡ true
  unfolding all_of
  all_are p [] d f = refl
  all_are p (x ∷ xs) d f = and-of (p x) (all_of p xs) (f 0 (omega arith)) (all_are p xs d (λ i l. f (suc i) (omega arith)))

  -- one fails
  pub all-not : (p : A → Bool) (xs : List A) (d : A) (i : ℕ) → i < length xs → p (get_or xs i d) ≡ false → all_of p xs ≡ false
  all-not p xs d i l f = not_so (all_of p xs) (λ t. false≢true (sym f ∙ all-place p xs d t i l))

  -- the same of the first n
  pub all-taken-are : (p : A → Bool) (n : ℕ) (xs : List A) (d : A) → ((i : ℕ) → i < n → p (get_or xs i d) ≡ true) → all_of p (take n xs) ≡ true
  all-taken-are p n xs d f =
      all_are p (take n xs) d
      (λ i l. let m : i < n = omega (arith, simp length-take at l) in rw (get_or-take n xs i d m) (f i m))

  pub all-taken-not : (p : A → Bool) (n : ℕ) (xs : List A) (d : A) (i : ℕ) → i < n → i < length xs → p (get_or xs i d) ≡ false → all_of p (take n xs) ≡ false
  all-taken-not p n xs d i m l f =
      all-not p (take n xs) d i (rw length-take (omega arith)) (rw (get_or-take n xs i d m) f)

  pub all-rows-are : (f : ℕ → A) (n : ℕ) (p : A → Bool) → ((i : ℕ) → i < n → p (f i) ≡ true) → all_of p (map f (up_to n)) ≡ true
  unfolding all_of
  all-rows-are f n p h = go (up_to n) (λ i k. h i (up_to-is i n k))
    where
      go : (is : List ℕ) → ((i : ℕ) → In i is → p (f i) ≡ true) → all_of p (map f is) ≡ true
      go [] g = refl
      go (i ∷ is) g = and-of (p (f i)) (all_of p (map f is)) (g i (In·head refl)) (go is (λ j k. g j (In·tail k)))

-- the keys below n that are kept
pub all-kept-are : (p h : ℕ → Bool) (n : ℕ) → ((k : ℕ) → k < n → h k ≡ true → p k ≡ true) → all_of p (keep h (up_to n)) ≡ true
all-kept-are p h n f = all-of p (keep h (up_to n)) (λ k i. let (j, e) = keep-is h (up_to n) i in f k (up_to-is k n j) e)

pub all-kept-not : (p h : ℕ → Bool) (n k : ℕ) → k < n → h k ≡ true → p k ≡ false → all_of p (keep h (up_to n)) ≡ false
all-kept-not p h n k l e f = not_so (all_of p (keep h (up_to n))) (λ t. false≢true (sym f ∙ all-at p t (keep-of h (up_to n) (up_to-of k n l) e)))

-- words that never fall, by their places
pub rises-are : (xs : List ℕ) → ((i : ℕ) → suc i < length xs → get_or xs i 0 ≤ get_or xs (suc i) 0) → rises xs ≡ true
unfolding rises
rises-are [] h = refl
rises-are (x ∷ []) h = refl
rises-are (x ∷ y ∷ ys) h = and-of (leb x y) (rises (y ∷ ys)) (le-leb x y (h 0 (omega arith))) (rises-are (y ∷ ys) (λ i l. h (suc i) (omega arith)))

pub rises-not : (xs : List ℕ) (i : ℕ) → suc i < length xs → get_or xs (suc i) 0 < get_or xs i 0 → rises xs ≡ false
unfolding rises
rises-not [] i l f = absurd (omega arith)
rises-not (x ∷ []) i l f = absurd (omega arith)
rises-not (x ∷ y ∷ ys) zero l f = rw (lt-leb x y f)
rises-not (x ∷ y ∷ ys) (suc i) l f = rw (rises-not (y ∷ ys) i (omega arith) f) (and_none (leb x y))
  where
    and_none : (b : Bool) → (b && false) ≡ false
    and_none true = refl
    and_none false = refl

-- words that ascend strictly, by their places
pub ascends-are : (xs : List ℕ) → ((i : ℕ) → suc i < length xs → get_or xs i 0 < get_or xs (suc i) 0) → ascends xs ≡ true
unfolding ascends
ascends-are [] h = refl
ascends-are (x ∷ []) h = refl
ascends-are (x ∷ y ∷ ys) h = and-of (ltb x y) (ascends (y ∷ ys)) (lt-ltb x y (h 0 (omega arith))) (ascends-are (y ∷ ys) (λ i l. h (suc i) (omega arith)))

pub ascends-not : (xs : List ℕ) (i : ℕ) → suc i < length xs → get_or xs (suc i) 0 ≤ get_or xs i 0 → ascends xs ≡ false
unfolding ascends
ascends-not [] i l f = absurd (omega arith)
ascends-not (x ∷ []) i l f = absurd (omega arith)
ascends-not (x ∷ y ∷ ys) zero l f = rw (le-ltb x y f)
ascends-not (x ∷ y ∷ ys) (suc i) l f = rw (ascends-not (y ∷ ys) i (omega arith) f) (and_none (ltb x y))
  where
    and_none : (b : Bool) → (b && false) ≡ false
    and_none true = refl
    and_none false = refl

-- a test that follows from the next adds nothing
pub and-absorbed : (a b : Bool) → (b ≡ true → a ≡ true) → (a && b) ≡ b
and-absorbed true b f = refl
and-absorbed false true f = f refl
and-absorbed false false f = refl

-- of words that ascend, the last decides whether all are below m
pub last-decides : (m : ℕ) (xs : List ℕ) (n : ℕ) → length xs ≡ suc n → ascends xs ≡ true → all_of (λ j. ltb j m) xs ≡ ltb (get_or xs n 0) m
unfolding all_of ascends
last-decides m [] n l a = absurd (omega arith)
last-decides m (x ∷ []) zero l a = and-true (ltb x m)
  where
    and-true : (b : Bool) → (b && true) ≡ b
    and-true true = refl
    and-true false = refl
last-decides m (x ∷ []) (suc n) l a = absurd (omega arith)
last-decides m (x ∷ y ∷ ys) zero l a = absurd (omega arith)
last-decides m (x ∷ y ∷ ys) (suc n) l a =
    and-absorbed (ltb x m) (all_of (λ j. ltb j m) (y ∷ ys)) (λ t. lt-ltb x m (omega (arith, ltb-true x y (left _ _ a), ltb-true y m (left _ _ t))))
    ∙ last-decides m (y ∷ ys) n (omega arith) (right (ltb x y) _ a)

-- a part, with its start and its length cut at the list's end
pub cut : (ws : List ℕ) (at n s m : ℕ) → s ≡ min at (length ws) → m ≡ min n (length ws - s) → take (s + m - s) (drop s ws) ≡ take n (drop at ws)
cut ws at n s m p q = rw l (elim (dec_lt at (length ws)) [ yes a ↦ inner a | no b ↦ outer b ])
  where
    l : s + m - s ≡ m
    l = omega arith

    inner : at < length ws → take m (drop s ws) ≡ take n (drop at ws)
    inner a =
        let e : s ≡ at = omega arith in
        elim (dec_lt n (length ws - at)) [
          | yes b ↦ let f : m ≡ n = omega arith in rw (e, f)
          | no b ↦ rw e (take_all m (drop at ws) (rw length-drop (omega arith)) ∙ sym (take_all n (drop at ws) (rw length-drop (omega arith))))
        ]

    outer : (at < length ws → ⊥) → take m (drop s ws) ≡ take n (drop at ws)
    outer b = rw (drop_of_length-le ws {i = s} (omega arith), drop_of_length-le ws {i = at} (omega arith), take-nil m) (sym (take-nil n))

-- a test of all, in two parts
module _ {ℓ} {A : Type ℓ} (p : A → Bool) where
  pub all-joined : (xs ys : List A) → all_of p (xs ++ ys) ≡ (all_of p xs && all_of p ys)
  unfolding all_of
  all-joined [] ys = refl
  all-joined (x ∷ xs) ys = go (p x) (all-joined xs ys)
    where
      go : (b : Bool) → all_of p (xs ++ ys) ≡ (all_of p xs && all_of p ys) → (b && all_of p (xs ++ ys)) ≡ (b && all_of p xs && all_of p ys)
      go true e = e
      go false e = refl

  pub all-next : (i : ℕ) (xs : List A) (d : A) → i < length xs → all_of p (take (i + 1) xs) ≡ (all_of p (take i xs) && p (get_or xs i d))
  unfolding all_of
  all-next i xs d l = rw (add-one, take-suc xs i d l) (all-joined (take i xs) (get_or xs i d ∷ []) ∙ ap (λ (b : Bool). all_of p (take i xs) && b) (and_last (p (get_or xs i d))))
    where
      and_last : (b : Bool) → (b && true) ≡ b
      and_last true = refl
      and_last false = refl

-- words together by or are 0 exactly if each is
pub or-none : (a b : ℕ) → eqb (bit_or a b) 0 ≡ (eqb a 0 && eqb 0 b)
or-none a b =
    agree (eqb (bit_or a b) 0) (eqb a 0 && eqb 0 b)
    (λ t.
    let z : bit_or a b ≡ 0 = eqb-true (bit_or a b) 0 t in
    let x : a ≡ 0 = omega (arith, or_add_and a b, and_le_r a b) in
    let y : 0 ≡ b = omega (arith, or_add_and a b, and_le_l a b) in
    and-of (eqb a 0) (eqb 0 b) (eq-eqb a 0 x) (eq-eqb 0 b y))
    (λ t.
    let x : a ≡ 0 = eqb-true a 0 (left _ _ t) in
    let y : 0 ≡ b = eqb-true 0 b (right (eqb a 0) _ t) in
    eq-eqb (bit_or a b) 0 (omega (arith, or_add_and a b)))

-- a list of no words
pub no_words : (m : ℕ) (xs : List ℕ) → length xs ≡ 0 → (ascends xs && all_of (λ j. ltb j m) xs) ≡ true
unfolding ascends all_of
no_words m [] e = refl
no_words m (x ∷ xs) e = absurd (omega arith)
