-- The invariant: the vertices passed are replaced by their places, and the rest as it was.
use mathlib.Core.Path.{◌≡◌, sym, ap, ap₂, ◌∙◌}
use mathlib.Core.Bool.{true}
use mathlib.Core.List.{List, [], ◌∷◌, ◌++◌, map, map-append, append_assoc}
use Prim.Native.Nat.{ℕ, suc, ◌+◌, ◌≤◌, ◌<◌}
use native.Mathlib.Nat.{add-zero}
use native.Mathlib.Numerals.{add-one}
use native.Mathlib.Omega.{arith}
use lib.ListN.{length, get_or, take, drop, set, length-take, length-map}
use lib.Dec.{eqb, ltb}
use lib.Seq.{drop-cons, take-suc, get_or-append-add, get_or-drop, set-append_seam}
use borrow.Author.Tests.{ltb-true}
use Rattle.rules.specs.Lists.{all_of, has, first_at}
use Rattle.rules.proofs.Tests.{all-place, all-has}
use Rattle.sheets.proofs.rims.renumber.Invariants.{replaced}
use Rattle.sheets.proofs.rims.renumber.Goals as goal

module _ (g : ℕ → ℕ) (xs : List ℕ) (i : ℕ) where
  front_length : i ≤ length xs → length (map g (take i xs)) ≡ i
  front_length l = rw (length-map, length-take) (omega arith)

  -- the next one is as it was
  replaced-next : i < length xs → get_or (replaced g xs i) i 0 ≡ get_or xs i 0
  replaced-next l =
      let e : i ≡ length (map g (take i xs)) + 0 = omega (arith, front_length (omega arith)) in
      ap (λ (k : ℕ). get_or (replaced g xs i) k 0) e ∙ get_or-append-add (map g (take i xs)) (drop i xs) 0 0 ∙ get_or-drop i xs 0 0 ∙ ap (λ (k : ℕ). get_or xs k 0) (add-zero i)

  replaced-more : i < length xs → set (replaced g xs i) i (g (get_or xs i 0)) ≡ replaced g xs (i + 1)
  replaced-more l =
      let n = front_length (omega arith) in
      rw (drop-cons xs i 0 l)
      (ap (λ (k : ℕ). set (map g (take i xs) ++ (get_or xs i 0 ∷ drop (suc i) xs)) k (g (get_or xs i 0))) (sym n)
      ∙ set-append_seam (map g (take i xs)) (get_or xs i 0) (drop (suc i) xs) (g (get_or xs i 0))
      ∙ sym (rw (add-one i, take-suc xs i 0 l, map-append) (append_assoc (map g (take i xs)) (g (get_or xs i 0) ∷ []) (drop (suc i) xs))))

-- what is read is the vertex that stood there, and it is listed
module _ (vs xs es : List ℕ) (i : ℕ) (e : es ≡ replaced (λ v. first_at (eqb v) vs) xs i) (l : i < length xs) (low : all_of (λ v. ltb v 8192) vs ≡ true) (all : all_of (λ v. has v vs) xs ≡ true) where
  read_is : get_or es i 0 ≡ get_or xs i 0
  read_is = ap (λ (e : List ℕ). get_or e i 0) e ∙ replaced-next (λ v. first_at (eqb v) vs) xs i l

  listed : has (get_or es i 0) vs ≡ true
  listed = rw read_is (all-place (λ v. has v vs) xs 0 all i l)

  known : get_or es i 0 < 8192
  known = ltb-true _ _ (all-has (λ v. ltb v 8192) vs (get_or es i 0) low listed)

pub bounds-numbers-end : goal.bounds-numbers-end
bounds-numbers-end c = known c.args.vertices.now c.args.ends.now c.loop-end.end-items c.loop-end.end-index c.loop-end.invariant (omega arith) c.requires.low c.requires.listed

pub loop-end-preserved : goal.loop-end-preserved
loop-end-preserved c =
    let t = c.loop-end in
    let vs = c.args.vertices.now in
    let xs = c.args.ends.now in
    let i = t.end-index in
    let l : i < length xs = omega arith in
    let x = c.number.ensures (get_or t.end-items i 0) (listed vs xs t.end-items i t.invariant l c.requires.low c.requires.listed) in
    ap₂ (λ (e : List ℕ) (y : ℕ). set e i y) t.invariant (x ∙ ap (λ v. first_at (eqb v) vs) (read_is vs xs t.end-items i t.invariant l c.requires.low c.requires.listed))
    ∙ replaced-more (λ v. first_at (eqb v) vs) xs i l
