-- The set that is held at the end of an ask, from the mask alone; and the way to it, one key at a time, as the code goes it before it writes a word.
use mathlib.Core.Path.{◌≡◌, refl, sym, ap, ◌∙◌, fun_ext}
use mathlib.Core.Bool.{Bool, true, false}
use mathlib.Core.List.{List, [], ◌∷◌}
use Prim.Native.Nat.{ℕ, zero, suc, ◌+◌, ◌*◌, ◌/◌, ◌%◌, ◌^◌, ◌≤◌}
use native.Mathlib.Omega.{arith}
use lib.ListN.{get_or, take}
use Rattle.rules.specs.Book.{dim, key, named, held, needs, Right}
use Rattle.rules.specs.Calls.{added, through, with_key, asked}
use Rattle.rules.specs.Steps.{next_key, mask_through, mask_with}
use Rattle.rules.proofs.Added.{dim-added}
use Rattle.rules.proofs.Needs.{key-again}
use Rattle.rules.proofs.Asked.{rank, rank-five, with_key-held, with_key-new, asked_is}
use Rattle.rules.proofs.RightUsed.{bare-dim}
use Rattle.rules.proofs.MadeAgree.{used-word}
use Rattle.rules.proofs.Stepped.{Next, next}

-- ---- Ask's mask: word 1 goes along the needs as the words do
mask-added : (ws : List ℕ) (d e : ℕ) → get_or (added ws d e) 1 0 ≡ get_or ws 1 0 + 2 ^ key d e
unfolding added
mask-added ws d e = refl

-- the words vs have the mesh dimension of ws, and the mask given
pub record Masked (ws : List ℕ) (mask : ℕ) (vs : List ℕ) : Type 0 where
  pub same : dim vs ≡ dim ws
  pub mask_is : get_or vs 1 0 ≡ mask

through-mask : (n : ℕ) → ((ws : List ℕ) (k : ℕ) → Masked ws (mask_with n (dim ws) (get_or ws 1 0) k) (with_key n ws k))
    → (ks ws : List ℕ) → Masked ws (mask_through (mask_with n (dim ws)) (get_or ws 1 0) ks) (through (with_key n) ws ks)
unfolding through mask_through
through-mask n ih [] ws = record { same = refl; mask_is = refl }
through-mask n ih (k ∷ ks) ws =
    let a = ih ws k in
    let b = through-mask n ih ks (with_key n ws k) in
    record {
      same = b.same ∙ a.same;
      mask_is = b.mask_is ∙ rw (a.same, a.mask_is);
    }

-- a key that is held, and one that is missing once its needs are there
held-masked : (n : ℕ) (ws : List ℕ) (k : ℕ) → held ws k ≡ true → Masked ws (mask_with (suc n) (dim ws) (get_or ws 1 0) k) (with_key (suc n) ws k)
unfolding mask_with held
held-masked n ws k q = rw (with_key-held n ws k q) (record { same = refl; mask_is = rw q })

new-masked : (n : ℕ) (ws : List ℕ) (k : ℕ) → held ws k ≡ false
    → Masked ws (mask_through (mask_with n (dim ws)) (get_or ws 1 0) (needs (dim ws) (k / 4) (k % 4))) (through (with_key n) ws (needs (dim ws) (k / 4) (k % 4)))
    → Masked ws (mask_with (suc n) (dim ws) (get_or ws 1 0) k) (with_key (suc n) ws k)
unfolding mask_with held
new-masked n ws k q t =
    rw (with_key-new n ws k q)
    (record {
      same = dim-added _ (k / 4) (k % 4) ∙ t.same;
      mask_is = mask-added _ (k / 4) (k % 4) ∙ rw (t.mask_is, key-again k, q);
    })

pub key-mask : (n : ℕ) (ws : List ℕ) (k : ℕ) → Masked ws (mask_with n (dim ws) (get_or ws 1 0) k) (with_key n ws k)
key-mask zero ws k = unfold with_key mask_with in record { same = refl; mask_is = refl }
key-mask (suc n) ws k = go (held ws k) refl (through-mask n (key-mask n) (needs (dim ws) (k / 4) (k % 4)) ws)
  where
    go : (b : Bool) → held ws k ≡ b
        → Masked ws (mask_through (mask_with n (dim ws)) (get_or ws 1 0) (needs (dim ws) (k / 4) (k % 4))) (through (with_key n) ws (needs (dim ws) (k / 4) (k % 4)))
        → Masked ws (mask_with (suc n) (dim ws) (get_or ws 1 0) k) (with_key (suc n) ws k)
    go true q t = held-masked n ws k q
    go false q t = new-masked n ws k q t

-- ---- what is held at the end of an ask
pub asked-held : (ws : List ℕ) → Right ws → (d e j : ℕ) → held (asked ws d e) j ≡ named (mask_with 6 (dim ws) (get_or ws 1 0) (key d e)) j
unfolding held
asked-held ws g d e j =
    ap (λ (w : List ℕ). named (get_or w 1 0) j) (asked_is ws d e)
    ∙ ap (λ (m : ℕ). named m j) ((key-mask 6 (take (get_or ws 4 0) ws) (key d e)).mask_is ∙ rw (bare-dim ws g, used-word ws g 1 (omega arith)))

-- ---- one key at a time
pub mask-there : (n D mask k : ℕ) → named mask k ≡ true → mask_with (suc n) D mask k ≡ mask
unfolding mask_with
mask-there n D mask k h = rw h

module _ (D : ℕ) (lo : 1 ≤ D) (hi : D ≤ 3) (mask k : ℕ) (a : k / 4 ≤ D) (b : k % 4 ≤ D) (off : named mask k ≡ false) where
  -- words that have this dimension and this mask
  abbrev us : List ℕ
  us = (2 ^ 30 * D) ∷ mask ∷ []

  us-dim : dim us ≡ D
  unfolding dim
  us-dim = omega arith

  us-held : held us ≡ named mask
  us-held = fun_ext (λ j. unfold held in refl)

  abbrev y : ℕ
  y = next_key 6 D (named mask) k

  step : Next D 6 (rank D k) us k y
  step = rw us-held at (next D lo hi 6 us k us-dim a b (omega (arith, rank-five D lo hi k a b)) (ap (λ (h : ℕ → Bool). h k) us-held ∙ off))

  -- the set at the end is the same once the next key is there
  pub mask_next : mask_with 6 D mask k ≡ mask_with 6 D (mask + 2 ^ y) k
  mask_next =
      let m = (key-mask 6 us k).mask_is in
      let n = (key-mask 6 (added us (y / 4) (y % 4)) k).mask_is in
      let x : mask_with 6 (dim us) (get_or us 1 0) k ≡ mask_with 6 (dim (added us (y / 4) (y % 4))) (get_or (added us (y / 4) (y % 4)) 1 0) k
      = sym m ∙ ap (λ (w : List ℕ). get_or w 1 0) step.same ∙ n in
      rw (dim-added us (y / 4) (y % 4), mask-added us (y / 4) (y % 4), key-again y, us-dim) at x

  pub mask-new : named mask y ≡ false
  mask-new = sym (ap (λ (h : ℕ → Bool). h y) us-held) ∙ step.new
