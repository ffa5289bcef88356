-- Up to three keys with zeros behind them, and how many they are.
use mathlib.Core.Path.{◌≡◌}
use mathlib.Core.List.{List, [], ◌∷◌}
use Prim.Native.Nat.{ℕ, ◌-◌}
use lib.ListN.{length, take, replicate}
use lib.Seq.{take-append_seam}
use Rattle.rules.specs.Lists.{filled}

module _ (ns : List ℕ) where
  pub none : ns ≡ [] → (0 ∷ 0 ∷ 0 ∷ [] ≡ filled 3 ns) × (0 ≡ length ns)
  unfolding filled
  none e = (rw e, rw e)

  module _ (a x : ℕ) (p : x ≡ a) where
    pub one : ns ≡ a ∷ [] → (x ∷ 0 ∷ 0 ∷ [] ≡ filled 3 ns) × (1 ≡ length ns)
    unfolding filled
    one e = (rw (e, p), rw e)

    module _ (b y : ℕ) (q : y ≡ b) where
      pub two : ns ≡ a ∷ b ∷ [] → (x ∷ y ∷ 0 ∷ [] ≡ filled 3 ns) × (2 ≡ length ns)
      unfolding filled
      two e = (rw (e, p, q), rw e)

      pub three : (c z : ℕ) → z ≡ c → ns ≡ a ∷ b ∷ c ∷ [] → (x ∷ y ∷ z ∷ [] ≡ filled 3 ns) × (3 ≡ length ns)
      unfolding filled
      three c z r e = (rw (e, p, q, r), rw e)

-- the keys that are listed
pub listed : (ns ks : List ℕ) (n : ℕ) → ks ≡ filled 3 ns → n ≡ length ns → take n ks ≡ ns
unfolding filled
listed ns ks n p q = rw (p, q) (take-append_seam ns (replicate (3 - length ns) 0))
