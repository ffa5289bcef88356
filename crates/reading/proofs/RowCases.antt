-- Row's number, case by case: each test that passes leaves the rest of the rules; and an accepted row begins within the book.
use mathlib.Core.Path.{◌≡◌, refl, sym, ◌∙◌}
use mathlib.Core.Bool.{Bool, true, false, cond, not, ◌&&◌}
use mathlib.Core.List.{List}
use mathlib.Core.Option.{some}
use Prim.Native.Nat.{ℕ, ◌+◌, ◌≤◌, ◌<◌}
use native.Mathlib.Omega.{arith}
use lib.ListN.{length}
use lib.Dec.{eqb, ltb, leb}
use borrow.Author.Tests.{eq-eqb, lt-ltb, le-ltb, le-leb, lt-leb, leb-true, not-true, not-false}
use Rattle.rules.specs.Lists.{all_of}
use Rattle.rules.specs.Book.{dim, count, key, held, offset, total, row_start, frame_right}
use Rattle.rules.specs.Broken.{broken_offset, row_broken_at}
use Rattle.rules.specs.Calls.{first_broken, row_rules, row_number, find_number}
use Rattle.rules.proofs.Tests.{left, right}
use Rattle.rules.proofs.FrameRule.{framed, room}
use Rattle.rules.proofs.Accepted.{unbroken, rowed, find-is}

-- row i's own two offsets are first ≤ second ≤ total
unfoldable pub offsets_right : List ℕ → ℕ → ℕ → Bool
offsets_right ws k i = leb (offset ws k i) (offset ws k (i + 1)) && leb (offset ws k (i + 1)) (total ws k)

module _ (ws : List ℕ) (d e i : ℕ) where
  pub row-10 : frame_right ws ≡ false → 10 ≡ row_number ws d e i
  unfolding row_number row_rules first_broken
  row-10 f = rw f

  module _ (f : frame_right ws ≡ true) where
    pub row-12-first : dim ws < d → 12 ≡ row_number ws d e i
    unfolding row_number row_rules first_broken
    row-12-first l = rw (f, lt-ltb (dim ws) d l)

    module _ (first : d ≤ dim ws) where
      pub row-12-second : dim ws < e → 12 ≡ row_number ws d e i
      unfolding row_number row_rules first_broken
      row-12-second l = rw (f, le-ltb (dim ws) d first, lt-ltb (dim ws) e l)

      module _ (second : e ≤ dim ws) where
        pub row-16 : held ws (key d e) ≡ false → 16 ≡ row_number ws d e i
        unfolding row_number row_rules first_broken
        row-16 h = rw (f, le-ltb (dim ws) d first, le-ltb (dim ws) e second, h)

        module _ (there : held ws (key d e) ≡ true) where
          pub row-17 : count ws d ≤ i → 17 ≡ row_number ws d e i
          unfolding row_number row_rules first_broken
          row-17 l = rw (f, le-ltb (dim ws) d first, le-ltb (dim ws) e second, there, le-leb (count ws d) i l)

          module _ (below : i < count ws d) where
            pub row-11 : offsets_right ws (key d e) i ≡ false → 11 ≡ row_number ws d e i
            unfolding row_number row_rules first_broken offsets_right
            row-11 o = rw (f, le-ltb (dim ws) d first, le-ltb (dim ws) e second, there, lt-leb (count ws d) i below, o)

            pub row-0 : offsets_right ws (key d e) i ≡ true → 0 ≡ row_number ws d e i
            unfolding row_number row_rules first_broken offsets_right
            row-0 o = rw (f, le-ltb (dim ws) d first, le-ltb (dim ws) e second, there, lt-leb (count ws d) i below, o)

  -- the place that comes with 11
  pub row_told : (k p : ℕ) → k ≡ key d e → p ≡ cond (ltb (total ws k) (offset ws k i)) i (i + 1) → some (k, p) ≡ row_broken_at ws d e i
  unfolding row_broken_at broken_offset
  row_told k p x y = rw (y, x)

  -- where Row accepts, j decides
  module _ (j : ℕ) (z : row_number ws d e i ≡ 0) where
    pub find-19 : count ws e ≤ j → 19 ≡ find_number ws d e i j
    find-19 l = sym (find-is ws d e i j ∙ rw (eq-eqb _ 0 z, le-leb (count ws e) j l))

    pub find-0 : j < count ws e → find_number ws d e i j ≡ 0
    find-0 l = find-is ws d e i j ∙ rw (eq-eqb _ 0 z, lt-leb (count ws e) j l)

  -- where it does not, its number is Find's
  pub find-as-row : (n j : ℕ) → eqb n 0 ≡ false → n ≡ row_number ws d e i → n ≡ find_number ws d e i j
  find-as-row n j h x = sym (find-is ws d e i j ∙ rw (← x, h))

  rules-pass : row_number ws d e i ≡ 0 → all_of (λ r. not r.broken) (row_rules ws d e i) ≡ true
  unfolding row_number
  rules-pass h = unbroken (row_rules ws d e i) (unfold all_of row_rules in refl) h

  -- an accepted row's frame is right, and so are its offsets
  pub row-framed : row_number ws d e i ≡ 0 → frame_right ws ≡ true
  unfolding row_rules all_of
  row-framed h =
      let r = rules-pass h in
      let q : not (not (frame_right ws)) ≡ true = search (left, right) depth 9 in
      not-false _ (not-true _ q)

  pub row-offsets : row_number ws d e i ≡ 0 → offsets_right ws (key d e) i ≡ true
  unfolding row_rules all_of offsets_right
  row-offsets h =
      let r = rules-pass h in
      let q : not (not (leb (offset ws (key d e) i) (offset ws (key d e) (i + 1)) && leb (offset ws (key d e) (i + 1)) (total ws (key d e)))) ≡ true = search (left, right) depth 9 in
      not-false _ (not-true _ q)

  pub row_within : row_number ws d e i ≡ 0 → row_start ws (key d e) i ≤ length ws
  unfolding row_start offsets_right
  row_within h =
      let f = framed ws (row-framed h) in
      let o = row-offsets h in
      let a : offset ws (key d e) i ≤ offset ws (key d e) (i + 1) = search (left, right, leb-true) in
      let b : offset ws (key d e) (i + 1) ≤ total ws (key d e) = search (left, right, leb-true) in
      omega (arith, f.fits, room ws f (key d e) (rowed ws d e i h).there)
