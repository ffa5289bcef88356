-- Entries in chains: none yet, one more at the head of its chain, and buckets that are alike.
use mathlib.Core.Path.{◌≡◌, sym, ◌∙◌}
use mathlib.Core.Logic.{◌⊎◌, inl, inr}
use mathlib.Core.List.{List}
use Prim.Native.Nat.{ℕ, ◌+◌, ◌≤◌, ◌<◌}
use native.Mathlib.Omega.{arith}
use lib.ListN.{length, get_or, set, replicate, length-set, length-replicate}
use lib.Seq.{get_or-set_same, get_or-set_other}
use Rattle.rules.proofs.Compared.{same_or_not}
use Rattle.rules.proofs.Numbered.{last-or-below}
use Rattle.rules.proofs.RightBook.{get_or-zeros}
use Rattle.rules.specs.Chains.{Newest, Links, Chains}

-- no entry yet, whatever `next` has
pub chains-empty : (b : ℕ → ℕ) (heads room : ℕ) (next : List ℕ) → length next ≡ room → Chains b heads room (replicate heads 0) next 0
chains-empty b heads room next e = record {
  links = record { next_long = e; most = omega arith; older = λ i l. absurd (omega arith) };
  head_long = length-replicate {A = ℕ} heads 0;
  newest = λ v l. rw (get_or-zeros heads v) (record { within = omega arith; none = λ i a b. absurd (omega arith); own = λ i e. absurd (omega arith) });
}

pub chains-none : (b : ℕ → ℕ) (heads room : ℕ) → Chains b heads room (replicate heads 0) (replicate room 0) 0
chains-none b heads room = chains-empty b heads room (replicate room 0) (length-replicate {A = ℕ} room 0)

-- entries whose buckets are alike below n have the same chains below n
newest-alike : {b c : ℕ → ℕ} {n : ℕ} → ((i : ℕ) → i < n → c i ≡ b i) → {v m p : ℕ} → m ≤ n → Newest b v m p → Newest c v m p
newest-alike f l w = record {
  within = w.within;
  none = λ i a d e. w.none i a d (sym (f i (omega arith)) ∙ e);
  own = λ i e. f i (omega (arith, w.within)) ∙ w.own i e;
}

pub chains-alike : {b c : ℕ → ℕ} {heads room : ℕ} {head next : List ℕ} {n : ℕ} → ((i : ℕ) → i < n → c i ≡ b i) → Chains b heads room head next n → Chains c heads room head next n
chains-alike f k = record {
  links = record {
    next_long = k.links.next_long;
    most = k.links.most;
    older = λ i l. rw (f i l) (newest-alike f (omega arith) (k.links.older i l));
  };
  head_long = k.head_long;
  newest = λ v l. newest-alike f (omega arith) (k.newest v l);
}

-- one entry more, in bucket v
module _ {b : ℕ → ℕ} {heads room : ℕ} {head next : List ℕ} {n : ℕ} (k : Chains b heads room head next n) (v : ℕ) (l : v < heads) where
  pub chain-links : Links b room next (get_or head v 0)
  chain-links = record {
    next_long = k.links.next_long;
    most = omega (arith, (k.newest v l).within, k.links.most);
    older = λ i m. k.links.older i (omega (arith, (k.newest v l).within));
  }

  module _ (h : n < room) (own : b n ≡ v) where
    older : (i : ℕ) → i < n + 1 → Newest b (b i) i (get_or (set next n (get_or head v 0)) i 0)
    older i m = go (same_or_not i n)
      where
        go : (i ≡ n) ⊎ (i ≡ n → ⊥) → Newest b (b i) i (get_or (set next n (get_or head v 0)) i 0)
        go (inl q) = rw (q, own, get_or-set_same next n (get_or head v 0) 0 (omega (arith, k.links.next_long))) (k.newest v l)
        go (inr q) = rw (get_or-set_other next n i (get_or head v 0) 0 q) (k.links.older i (omega arith))

    newest : (u : ℕ) → u < heads → Newest b u (n + 1) (get_or (set head v (n + 1)) u 0)
    newest u m = go (same_or_not u v)
      where
        go : (u ≡ v) ⊎ (u ≡ v → ⊥) → Newest b u (n + 1) (get_or (set head v (n + 1)) u 0)
        go (inl q) =
            rw (q, get_or-set_same head v (n + 1) 0 (omega (arith, k.head_long)))
            (record {
              within = omega arith;
              none = λ i a b. absurd (omega arith);
              own = λ i g. let o : i ≡ n = omega arith in rw o own;
            })
        go (inr q) =
            let w = k.newest u m in
            rw (get_or-set_other head v u (n + 1) 0 q)
            (record {
              within = omega (arith, w.within);
              none = λ i a b g. elim (last-or-below i n (omega arith)) [ inl o ↦ q (sym g ∙ rw o own) | inr o ↦ w.none i a o g ];
              own = w.own;
            })

    pub chains-more : Chains b heads room (set head v (n + 1)) (set next n (get_or head v 0)) (n + 1)
    chains-more = record {
      links = record {
        next_long = length-set next n (get_or head v 0) ∙ k.links.next_long;
        most = omega arith;
        older = older;
      };
      head_long = length-set head v (n + 1) ∙ k.head_long;
      newest = newest;
    }
