-- The invariant: the vertices passed have their places.
use mathlib.Core.Path.{◌≡◌, sym, ap, ◌∙◌}
use mathlib.Core.Logic.{◌⊎◌, inl, inr}
use mathlib.Core.Bool.{true}
use mathlib.Core.List.{List}
use Prim.Native.Nat.{ℕ, ◌+◌, ◌<◌}
use native.Mathlib.Numerals.{add-one}
use native.Mathlib.Omega.{arith}
use lib.ListN.{length, get_or, set}
use lib.Dec.{eqb, ltb}
use lib.Seq.{get_or-set_same, get_or-set_other}
use borrow.Author.Tests.{ltb-true}
use Rattle.rules.specs.Lists.{has, ascends, first_at}
use Rattle.rules.proofs.Tests.{all-place, has-is}
use Rattle.rules.proofs.Numbered.{last-or-below}
use Rattle.rules.proofs.Ranked.{rank_below, rank-at, rank-of}
use Rattle.sheets.proofs.rims.number.Invariants.{Placed}
use Rattle.sheets.proofs.rims.number.Goals as goal

module _ (vertices : List ℕ) (up : ascends vertices ≡ true) where
  -- no vertex stands twice
  apart : (i j : ℕ) → i < length vertices → j < length vertices → get_or vertices i 0 ≡ get_or vertices j 0 → i ≡ j
  apart i j l k e = sym (rank-of vertices i 0 up l) ∙ ap (λ (v : ℕ). first_at (eqb v) vertices) e ∙ rank-of vertices j 0 up k

  placed-more : (n : ℕ) (numbers : List ℕ) → n < length vertices → get_or vertices n 0 < length numbers → Placed vertices n numbers → Placed vertices (n + 1) (set numbers (get_or vertices n 0) n)
  placed-more n numbers l k h j m = go (last-or-below j n (rw add-one at m))
    where
      go : (j ≡ n) ⊎ (j < n) → get_or (set numbers (get_or vertices n 0) n) (get_or vertices j 0) 0 ≡ j
      go (inl e) = rw e (get_or-set_same numbers (get_or vertices n 0) n 0 k)
      go (inr b) =
          get_or-set_other numbers (get_or vertices n 0) (get_or vertices j 0) n 0 (λ e. omega (arith, apart j n (omega arith) l e)) ∙ h j b

  placed-all : (numbers : List ℕ) → Placed vertices (length vertices) numbers → (v : ℕ) → has v vertices ≡ true → get_or numbers v 0 ≡ first_at (eqb v) vertices
  placed-all numbers h v i =
      let m = has-is v vertices i in
      sym (ap (λ (u : ℕ). get_or numbers u 0) (rank-at v 0 vertices m)) ∙ h (first_at (eqb v) vertices) (rank_below v vertices m)

pub bounds-numbers-v : goal.bounds-numbers-v
bounds-numbers-v c = ltb-true _ _ (all-place (λ v. ltb v 8192) c.args.vertices.now 0 c.requires.low c.loop-i.i (omega arith))

pub loop-i-preserved : goal.loop-i-preserved
loop-i-preserved c =
    let t = c.loop-i in
    let vs = c.args.vertices.now in
    let low : get_or vs t.i 0 < 8192 = ltb-true _ _ (all-place (λ v. ltb v 8192) vs 0 c.requires.low t.i (omega arith)) in
    placed-more vs c.requires.ascending t.i t.numbers (omega arith) (omega (arith, low)) t.invariant

pub returns : goal.returns
returns c =
    let t = c.loop-i in
    let vs = c.args.vertices.now in
    let e : t.i ≡ length vs = omega arith in
    placed-all vs c.requires.ascending t.numbers (rw e at t.invariant)
