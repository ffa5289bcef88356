-- Rows of one length written one after another, and behind their offsets: a relation.
use mathlib.Core.Path.{◌≡◌, refl, sym, ◌∙◌}
use mathlib.Core.List.{List, map}
use Prim.Native.Nat.{ℕ, zero, suc, ◌+◌, ◌*◌, ◌≤◌, ◌<◌}
use native.Mathlib.Nat.{zero-mul, suc-mul, mul-suc}
use native.Mathlib.Numerals.{add-one}
use native.Mathlib.Omega.{arith}
use lib.ListN.{length, length-append}
use Rattle.rules.specs.Lists.{up_to, joined}
use Rattle.rules.specs.Book.{offsets, relation}
use Rattle.rules.proofs.Joined.{map_last, joined-more, offsets-more}
use Rattle.relations.specs.Words.{Written}
use Rattle.relations.proofs.Appended.{written_none, written_then}

-- i rows of at most `size` words each are written
pub record Listing (ws : List ℕ) (at n size : ℕ) (r : ℕ → List ℕ) (vs : List ℕ) (to i : ℕ) : Type 0 where
  pub high : i ≤ n
  pub long : length vs ≡ length ws
  pub reach : to ≤ at + size * i
  pub written : Written ws at (joined (map r (up_to i))) to vs

pub listing_none : (ws : List ℕ) (at n size : ℕ) (r : ℕ → List ℕ) → Listing ws at n size r ws at 0
unfolding up_to joined
listing_none ws at n size r = record { high = omega arith; long = refl; reach = omega arith; written = written_none ws at at refl }

module _ {ws : List ℕ} {at n size : ℕ} {r : ℕ → List ℕ} {vs : List ℕ} {to i : ℕ} (w : Listing ws at n size r vs to i) where
  pub listing-more : i < n → (us : List ℕ) (k : ℕ) → length us ≡ length vs → k ≤ to + size → Written vs to (r i) k us → Listing ws at n size r us k (i + 1)
  listing-more l us k s h u = record {
    high = omega arith;
    long = s ∙ w.long;
    reach = rw (add-one i, mul-suc) (omega (arith, w.reach));
    written = rw (joined-more r i) (written_then w.written u);
  }

  pub listing-all : n ≤ i → Written ws at (joined (map r (up_to n))) to vs
  listing-all l = let e : i ≡ n = omega (arith, w.high) in rw e at w.written

-- the offsets of rows of one length are its multiples
module _ (r : ℕ → List ℕ) (size : ℕ) (e : (i : ℕ) → length (r i) ≡ size) where
  even-joined : (n : ℕ) → length (joined (map r (up_to n))) ≡ n * size
  even-joined zero = let z : length (joined (map r (up_to 0))) ≡ 0 = unfold joined up_to in refl in z ∙ sym (zero-mul size)
  even-joined (suc n) =
      let g : n + 1 ≡ suc n = add-one n in
      rw (← g, joined-more r n, length-append, even-joined n, e n) (rw (g, suc-mul n size))

  even-offsets : (n : ℕ) → offsets 0 (map r (up_to n)) ≡ map (λ k. k * size) (up_to (n + 1))
  even-offsets zero = even-first
    where
      even-first : offsets 0 (map r (up_to 0)) ≡ map (λ k. k * size) (up_to (0 + 1))
      even-first = unfold offsets up_to in rw (zero-mul size)
  even-offsets (suc n) =
      let g : n + 1 ≡ suc n = add-one n in
      rw (← g, offsets-more r n, even-offsets n, even-joined (n + 1)) (sym (map_last (λ k. k * size) (n + 1)))

  pub even-written : (n : ℕ) {ws vs us : List ℕ} {dst to : ℕ} → Written ws dst (map (λ k. k * size) (up_to (n + 1))) (dst + (n + 1)) vs
      → Written vs (dst + n + 1) (joined (map r (up_to n))) to us → Written ws dst (relation (map r (up_to n))) to us
  unfolding relation
  even-written n {dst = dst} w u =
      let g : dst + (n + 1) ≡ dst + n + 1 = omega arith in
      rw (even-offsets n) (written_then (rw g at w) u)
