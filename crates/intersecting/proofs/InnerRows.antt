-- The rows of d→e, written behind their sources and merged: as before in a book that begins alike, and what the merge keeps.
use mathlib.Core.Path.{◌≡◌}
use mathlib.Core.Bool.{◌&&◌, and_comm}
use mathlib.Core.List.{List}
use Prim.Native.Nat.{ℕ, ◌+◌, ◌≤◌, ◌<◌, ◌-◌}
use lib.ListN.{length, take}
use Rattle.rules.specs.Lists.{inside}
use Rattle.rules.specs.Made.{listed_at}
use Rattle.rules.proofs.First.{keep_same, keep-length}
use Rattle.relations.specs.Words.{part, row_at, Rows, start_of}
use Rattle.intersecting.specs.Inner.{lies_in, inner_row}
use Rattle.merging.specs.Near.{Through, Stand}
use Rattle.relations.proofs.Placed.{row_at-front}
use native.Mathlib.Omega.{arith}
use Rattle.merging.specs.Merge.{parts, merged}
use Rattle.merging.proofs.Front.{listed_at-same}
use Rattle.merging.proofs.Standing.{stand-listed, row_below, row_ends, vertices}

module _ (vs ws : List ℕ) (m : ℕ) (e : take m vs ≡ take m ws) (own n back v : ℕ) (c : Through ws own n back v m) where
  pub inner_row-front : (sub b : ℕ) → Rows ws sub b m → (i : ℕ) → i < n → inner_row vs own n back v sub b i ≡ inner_row ws own n back v sub b i
  unfolding inner_row
  inner_row-front sub b r i h =
      rw (row_at-front vs ws m e c.owned i h)
      (keep_same _ _ b
      (λ j l.
      rw (
        listed_at-same (row_at vs back v) (row_at ws back v) v (row_at-front vs ws m e c.backed) (row_at ws own n i) (c.below i h) j,
        row_at-front vs ws m e r j l,
      )))

pub length-inner_row : (ws : List ℕ) (own n back v sub b i : ℕ) → length (inner_row ws own n back v sub b i) ≤ b
unfolding inner_row
length-inner_row ws own n back v sub b i =
    keep-length (λ j. listed_at (row_at ws back v) (row_at ws own n i) j && inside (row_at ws sub b j) (row_at ws own n i)) b

-- what row i of d→e gives, with its vertices from a up to e
module _ (ws : List ℕ) (own n back v m : ℕ) (c : Through ws own n back v m) (l : m ≤ length ws) (i : ℕ) (h : i < n) (a e : ℕ)
    (p : a ≡ start_of ws own n i) (q : e ≡ start_of ws own n (i + 1))
    (next end : List ℕ) (s : Stand ws back v a (e - a) next end) where
  pub inner-row : (sub b : ℕ) → merged (lies_in ws sub b a (e - a)) b (parts ws next end (e - a)) ≡ inner_row ws own n back v sub b i
  unfolding merged inner_row lies_in
  inner-row sub b =
      keep_same _ _ b
      (λ j r.
      rw (stand-listed ws back v a next end (e - a) s (row_below ws own n back v m c l i h a e p q) (omega (arith, row_ends ws own n back v m c l i h a e p q)) j (e - a) (omega arith), vertices ws own n back v m c l i h a e p q)
      (and_comm (inside (row_at ws sub b j) (row_at ws own n i)) (listed_at (row_at ws back v) (row_at ws own n i) j)))
