-- The offsets of rows of one length, written one after another.
use mathlib.Core.Path.{◌≡◌, refl, ◌∙◌}
use mathlib.Core.List.{List, map}
use Prim.Native.Nat.{ℕ, ◌+◌, ◌*◌, ◌≤◌, ◌<◌}
use native.Mathlib.Omega.{arith}
use lib.ListN.{length, set, length-set}
use Rattle.rules.specs.Lists.{up_to}
use Rattle.rules.proofs.Joined.{map_last}
use Rattle.relations.specs.Words.{Written}
use Rattle.relations.proofs.Appended.{written_none, written-more}

-- i offsets are written
pub record Stepping (ws : List ℕ) (dst n size : ℕ) (vs : List ℕ) (i : ℕ) : Type 0 where
  pub high : i ≤ n
  pub long : length vs ≡ length ws
  pub written : Written ws dst (map (λ k. k * size) (up_to i)) (dst + i) vs

pub stepping-none : (ws : List ℕ) (dst n size : ℕ) → Stepping ws dst n size ws 0
unfolding up_to
stepping-none ws dst n size = record { high = omega arith; long = refl; written = written_none ws dst (dst + 0) (omega arith) }

module _ {ws : List ℕ} {dst n size : ℕ} {vs : List ℕ} {i : ℕ} (w : Stepping ws dst n size vs i) where
  pub stepping-more : i < n → (us : List ℕ) → us ≡ set vs (dst + i) (i * size) → Stepping ws dst n size us (i + 1)
  stepping-more l us e =
      let g : dst + i + 1 ≡ dst + (i + 1) = omega arith in
      record {
        high = omega arith;
        long = rw e (length-set vs (dst + i) (i * size) ∙ w.long);
        written = rw (e, map_last (λ k. k * size) i, ← g) (written-more w.written (i * size));
      }

  pub stepping-all : n ≤ i → Written ws dst (map (λ k. k * size) (up_to n)) (dst + n) vs
  stepping-all l = let e : i ≡ n = omega (arith, w.high) in rw e at w.written
