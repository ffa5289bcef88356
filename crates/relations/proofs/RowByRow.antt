-- A relation whose rows are read from the words before dst, written row by row from dst on.
use mathlib.Core.Path.{◌≡◌, refl, sym, ◌∙◌}
use mathlib.Core.List.{List, map}
use Prim.Native.Nat.{ℕ, ◌+◌, ◌-◌, ◌*◌, ◌≤◌, ◌<◌}
use native.Mathlib.Omega.{arith}
use lib.ListN.{length, take, set, length-set}
use lib.Seq.{take-set-le}
use Rattle.rules.specs.Lists.{up_to}
use Rattle.rules.specs.Book.{relation}
use Rattle.rules.proofs.Numbered.{rows_agree}
use Rattle.rules.proofs.Slices.{take-front}
use Rattle.relations.specs.Words.{Written}
use Rattle.relations.proofs.Filled.{Filled, rows_short, filled_none, filled-count, filled_more, filled-all, written_over}

-- ws at entry, us once the first offset is written; the first k words decide every row
pub record Base (R : List ℕ → ℕ → List ℕ) (ws us : List ℕ) (n dst k : ℕ) : Type 0 where
  pub first : us ≡ set ws dst 0
  pub before : k ≤ dst
  pub same : (vs : List ℕ) → take k vs ≡ take k ws → (i : ℕ) → i < n → R vs i ≡ R ws i
  pub short : (vs : List ℕ) (i : ℕ) → length (R vs i) < 65536

module _ {R : List ℕ → ℕ → List ℕ} {ws us : List ℕ} {n dst k : ℕ} (b : Base R ws us n dst k) where
  us-front : take k us ≡ take k ws
  us-front = rw b.first (take-set-le k ws dst 0 b.before)

  pub row-start : Filled (R us) n dst us us 0 (dst + n + 1)
  row-start = filled_none (R us) n dst ws us b.first

  module _ {vs : List ℕ} {i at : ℕ} (f : Filled (R us) n dst us vs i at) where
    pub row-front : take k vs ≡ take k ws
    row-front = take-front vs us dst f.front k b.before ∙ us-front

    pub row-size : length vs ≡ length ws
    row-size = f.size ∙ rw b.first (length-set ws dst 0)

    pub row-reach : at ≤ dst + n + 1 + i * 65535
    row-reach = omega (arith, f.count, rows_short (R us) i (λ j h. b.short us j))

    pub row-after : dst + n + 1 ≤ at
    row-after = omega (arith, f.count)

    row_same : (h : i < n) → R vs i ≡ R us i
    row_same h = b.same vs row-front i h ∙ sym (b.same us us-front i h)

    module _ {ts : List ℕ} {to : ℕ} (h : i < n) (s : length ts ≡ length vs) (w : Written vs at (R vs i) to ts) where
      row_written : Written vs at (R us i) to ts
      row_written = rw (row_same h) at w

      pub row-size-after : to - (dst + n + 1) ≤ (i + 1) * 65535
      row-size-after =
          omega (arith, filled-count f h s row_written, rows_short (R us) (i + 1) (λ j m. b.short us j))

      pub row-later : dst + n + 1 ≤ to
      row-later = omega (arith, row-after, w.place)

      pub row_more : (xs : List ℕ) → xs ≡ set ts (dst + i + 1) (to - (dst + n + 1)) → Filled (R us) n dst us xs (i + 1) to
      row_more xs e = rw e (filled_more f h s row_written (to - (dst + n + 1)) refl)

  pub row-all : (vs : List ℕ) (at : ℕ) → Filled (R us) n dst us vs n at → Written ws dst (relation (map (R ws) (up_to n))) at vs
  row-all vs at f =
      rw (rows_agree (R ws) (R us) n (λ i h. sym (b.same us us-front i h)))
      (written_over ws us vs dst (relation (map (R us) (up_to n))) at b.first (omega (arith, row-after f))
      (filled-all (R us) n dst us vs at f))
