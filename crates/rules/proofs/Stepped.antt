-- Ask goes one relation at a time: making the next key first leaves what Ask gives as it was.
use mathlib.Core.Path.{◌≡◌, refl, sym, ap, ◌∙◌}
use mathlib.Core.Bool.{Bool, true, false, cond, ◌&&◌, true≢false}
use mathlib.Core.List.{List, [], ◌∷◌}
use Prim.Native.Nat.{ℕ, zero, suc, ◌-◌, ◌/◌, ◌%◌, ◌≤◌, ◌<◌}
use native.Mathlib.Omega.{arith}
use borrow.Author.Tests.{leb-true}
use Rattle.rules.specs.Lists.{all_of}
use Rattle.rules.specs.Book.{dim, key, held, needs}
use Rattle.rules.specs.Calls.{added, through, with_key}
use Rattle.rules.specs.Steps.{first_off, onward, next_key}
use Rattle.rules.proofs.Tests.{left, right}
use Rattle.rules.proofs.Needs.{key-again}
use Rattle.rules.proofs.Added.{held-added, other-added, keeps-added, dim-added}
use Rattle.rules.proofs.Asked.{rank, within, rank-pos, rank-needs, with_key-held, with_key-new}

-- a key that is held changes no word, at any depth
any_held : (n : ℕ) (ws : List ℕ) (k : ℕ) → held ws k ≡ true → with_key n ws k ≡ ws
any_held zero ws k h = unfold with_key in refl
any_held (suc n) ws k h = with_key-held n ws k h

all-through : (n : ℕ) (ws ks : List ℕ) → all_of (held ws) ks ≡ true → through (with_key n) ws ks ≡ ws
unfolding through all_of
all-through n ws [] h = refl
all-through n ws (k ∷ ks) h = rw (any_held n ws k (left _ _ h)) (all-through n ws ks (right (held ws k) _ h))

-- the words with key y made
abbrev more : List ℕ → ℕ → List ℕ
more ws y = added ws (y / 4) (y % 4)

-- y can be made, is no deeper than r, and making it first changes nothing of what k gives
pub record Next (D n r : ℕ) (ws : List ℕ) (k y : ℕ) : Type 0 where
  pub new : held ws y ≡ false
  pub needed : all_of (held ws) (needs D (y / 4) (y % 4)) ≡ true
  pub first : y / 4 ≤ D
  pub second : y % 4 ≤ D
  pub deep : rank D y ≤ r
  pub same : with_key n ws k ≡ with_key n (more ws y) k

own_new : (ws : List ℕ) (y : ℕ) → held ws y ≡ false → held ws (key (y / 4) (y % 4)) ≡ false
own_new ws y h = rw (key-again y) h

-- where a list lacks a key, the first that it lacks is lacking, and passes what all of them pass
pub first-lacks : (h : ℕ → Bool) (k : ℕ) (ks : List ℕ) → all_of h ks ≡ false → h (first_off h k ks) ≡ false
unfolding all_of first_off
first-lacks h k [] a = absurd (true≢false a)
first-lacks h k (x ∷ xs) a = go (h x) refl a (first-lacks h k xs)
  where
    go : (b : Bool) → h x ≡ b → (b && all_of h xs) ≡ false → (all_of h xs ≡ false → h (first_off h k xs) ≡ false) → h (cond b (first_off h k xs) x) ≡ false
    go true q e ih = ih e
    go false q e ih = q

first_passes : (h p : ℕ → Bool) (k : ℕ) (ks : List ℕ) → all_of h ks ≡ false → all_of p ks ≡ true → p (first_off h k ks) ≡ true
unfolding all_of first_off
first_passes h p k [] a c = absurd (true≢false a)
first_passes h p k (x ∷ xs) a c = go (h x) a (first_passes h p k xs)
  where
    go : (b : Bool) → (b && all_of h xs) ≡ false → (all_of h xs ≡ false → all_of p xs ≡ true → p (first_off h k xs) ≡ true) → p (cond b (first_off h k xs) x) ≡ true
    go true e ih = ih e (right (p x) _ c)
    go false e ih = left _ _ c

-- where none is lacking, k itself
pub first-none : (h : ℕ → Bool) (k : ℕ) (ks : List ℕ) → all_of h ks ≡ true → first_off h k ks ≡ k
unfolding all_of first_off
first-none h k [] a = refl
first-none h k (x ∷ xs) a = rw (left (h x) (all_of h xs) a) (first-none h k xs (right (h x) _ a))

pub next-stays : (n D : ℕ) (h : ℕ → Bool) (k : ℕ) → all_of h (needs D (k / 4) (k % 4)) ≡ true → next_key n D h k ≡ k
unfolding next_key onward
next-stays zero D h k a = refl
next-stays (suc n) D h k a = rw (first-none h k (needs D (k / 4) (k % 4)) a) (next-stays n D h k a)

pub next-onward : (n D : ℕ) (h : ℕ → Bool) (k : ℕ) → next_key (suc n) D h k ≡ next_key n D h (onward D h k)
unfolding next_key
next-onward n D h k = refl

-- keys made in turn, with one of them begun before
through_same : (n : ℕ) (ws : List ℕ) (y k : ℕ) → held ws y ≡ false → (ks : List ℕ) → all_of (held ws) ks ≡ false
    → with_key n ws (first_off (held ws) k ks) ≡ with_key n (more ws y) (first_off (held ws) k ks)
    → through (with_key n) ws ks ≡ through (with_key n) (more ws y) ks
unfolding through all_of first_off
through_same n ws y k off [] a e = absurd (true≢false a)
through_same n ws y k off (z ∷ zs) a e = go (held ws z) refl a e (through_same n ws y k off zs)
  where
    go : (b : Bool) → held ws z ≡ b → (b && all_of (held ws) zs) ≡ false
        → with_key n ws (cond b (first_off (held ws) k zs) z) ≡ with_key n (more ws y) (cond b (first_off (held ws) k zs) z)
        → (all_of (held ws) zs ≡ false → with_key n ws (first_off (held ws) k zs) ≡ with_key n (more ws y) (first_off (held ws) k zs) → through (with_key n) ws zs ≡ through (with_key n) (more ws y) zs)
        → through (with_key n) (with_key n ws z) zs ≡ through (with_key n) (with_key n (more ws y) z) zs
    go true q f g ih =
        rw (any_held n ws z q, any_held n (more ws y) z (keeps-added ws (y / 4) (y % 4) (own_new ws y off) z q)) (ih f g)
    go false q f g ih = ap (λ (w : List ℕ). through (with_key n) w zs) g

-- a key of the mesh, at most r deep
within-parts : (D r x : ℕ) → within D r x ≡ true → (x / 4 ≤ D) × (x % 4 ≤ D) × (rank D x ≤ r)
unfolding within
within-parts D r x w = (search (left, right, leb-true), search (left, right, leb-true), search (left, right, leb-true))

module _ (D : ℕ) (lo : 1 ≤ D) (hi : D ≤ 3) where
  -- k once its first lacking need is under way
  further : (n : ℕ) (ws : List ℕ) (k y : ℕ) → dim ws ≡ D → k / 4 ≤ D → k % 4 ≤ D → held ws k ≡ false → all_of (held ws) (needs D (k / 4) (k % 4)) ≡ false
      → (r : ℕ) → r < rank D k → Next D n r ws (onward D (held ws) k) y → Next D (suc n) (rank D k) ws k y
  unfolding onward
  further n ws k y d a b off lacks r l x =
      let o = own_new ws y x.new in
      let apart : k ≡ key (y / 4) (y % 4) → ⊥ = λ e. let q : rank D k ≡ rank D y = ap (rank D) (e ∙ key-again y) in omega (arith, x.deep) in
      let off' : held (more ws y) k ≡ false = other-added ws (y / 4) (y % 4) o k apart ∙ off in
      let t : through (with_key n) ws (needs D (k / 4) (k % 4)) ≡ through (with_key n) (more ws y) (needs D (k / 4) (k % 4))
      = through_same n ws y k x.new (needs D (k / 4) (k % 4)) lacks x.same in
      record {
        new = x.new;
        needed = x.needed;
        first = x.first;
        second = x.second;
        deep = omega (arith, x.deep);
        same = rw (with_key-new n ws k off, with_key-new n (more ws y) k off', dim-added ws (y / 4) (y % 4), d, t);
      }

  -- k with all its needs there
  ready : (n : ℕ) (ws : List ℕ) (k : ℕ) → dim ws ≡ D → k / 4 ≤ D → k % 4 ≤ D → held ws k ≡ false → all_of (held ws) (needs D (k / 4) (k % 4)) ≡ true → Next D (suc n) (rank D k) ws k k
  ready n ws k d a b off all =
      let h : held (more ws k) k ≡ true = ap (held (more ws k)) (sym (key-again k)) ∙ held-added ws (k / 4) (k % 4) (own_new ws k off) in
      record {
        new = off;
        needed = all;
        first = a;
        second = b;
        deep = omega arith;
        same = with_key-new n ws k off ∙ rw (d, all-through n ws (needs D (k / 4) (k % 4)) all) (sym (with_key-held n (more ws k) k h));
      }

  pub next : (n : ℕ) (ws : List ℕ) (k : ℕ) → dim ws ≡ D → k / 4 ≤ D → k % 4 ≤ D → rank D k ≤ n → held ws k ≡ false → Next D n (rank D k) ws k (next_key n D (held ws) k)
  next zero ws k d a b l off = absurd (omega (arith, rank-pos D lo hi k a b))
  next (suc n) ws k d a b l off =
      go (all_of (held ws) (needs D (k / 4) (k % 4))) refl
      (λ x c e. let w = within-parts D (rank D k - 1) x c in next n ws x d w.0 w.1 (omega (arith, w.2, rank-pos D lo hi k a b)) e)
    where
      go : (f : Bool) → all_of (held ws) (needs D (k / 4) (k % 4)) ≡ f
          → ((x : ℕ) → within D (rank D k - 1) x ≡ true → held ws x ≡ false → Next D n (rank D x) ws x (next_key n D (held ws) x))
          → Next D (suc n) (rank D k) ws k (next_key (suc n) D (held ws) k)
      go true q ih = rw (next-stays (suc n) D (held ws) k q) (ready n ws k d a b off q)
      go false q ih =
          let x = onward D (held ws) k in
          let c : within D (rank D k - 1) x ≡ true = unfold onward in first_passes (held ws) (within D (rank D k - 1)) k (needs D (k / 4) (k % 4)) q (rank-needs D lo hi k a b) in
          let o : held ws x ≡ false = unfold onward in first-lacks (held ws) k (needs D (k / 4) (k % 4)) q in
          let l : rank D x < rank D k = omega (arith, (within-parts D (rank D k - 1) x c).2, rank-pos D lo hi k a b) in
          rw (next-onward n D (held ws) k) (further n ws k (next_key n D (held ws) x) d a b off q (rank D x) l (ih x c o))
