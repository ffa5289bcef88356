-- The invariant: the cells across from the cells passed stand at the front, and the rest as it was.
use mathlib.Core.Path.{◌≡◌, refl, sym, ap, ◌∙◌}
use mathlib.Core.List.{List, [], ◌++◌, append-nil}
use Prim.Native.Nat.{ℕ, zero, suc, ◌+◌, ◌*◌, ◌≤◌, ◌<◌}
use native.Mathlib.Numerals.{add-one}
use native.Mathlib.Omega.{arith}
use lib.ListN.{length, drop, length-append, length-map}
use lib.Seq.{sets, drop-length}
use Rattle.rules.specs.Lists.{up_to, joined}
use Rattle.rules.specs.Book.{count}
use Rattle.rules.specs.Sheet.{across, Sheet}
use Rattle.rules.proofs.Joined.{joined-more, put-behind}
use Rattle.rules.proofs.SheetAccepted.{three-edges}
use Rattle.sheets.proofs.others.fill_across.Invariants.{side, sides}
use Rattle.sheets.proofs.others.fill_across.Goals as goal

module _ (ws : List ℕ) (a : Sheet ws) where
  side-three : (c : ℕ) → c < count ws 2 → length (side ws c) ≡ 3
  side-three c l = rw length-map (three-edges ws a c l)

  sides-length : (c : ℕ) → c ≤ count ws 2 → length (sides ws c) ≡ 3 * c
  sides-length zero l = unfold up_to joined in refl
  sides-length (suc c) l =
      rw (← add-one c, joined-more (side ws) c, length-append) (omega (arith, sides-length c (omega arith), side-three c (omega arith)))

  module _ (out : List ℕ) (long : length out ≡ 3 * count ws 2) (c : ℕ) (l : c < count ws 2) where
    put-more : sets (sides ws c ++ drop (length (sides ws c)) out) (3 * c) (side ws c) ≡ sides ws (c + 1) ++ drop (length (sides ws (c + 1))) out
    put-more =
        let n = sides-length c (omega arith) in
        ap (λ (k : ℕ). sets (sides ws c ++ drop (length (sides ws c)) out) k (side ws c)) (sym n)
        ∙ put-behind (sides ws c) (side ws c) out (omega (arith, n, side-three c l))
        ∙ rw (joined-more (side ws) c)

  all-sides : (out : List ℕ) → length out ≡ 3 * count ws 2 → sides ws (count ws 2) ++ drop (length (sides ws (count ws 2))) out ≡ across ws
  unfolding across
  all-sides out long =
      let e : drop (length (sides ws (count ws 2))) out ≡ [] = let n : length (sides ws (count ws 2)) ≡ length out = omega (arith, sides-length (count ws 2) (omega arith)) in rw (n, drop-length) in
      rw (e, append-nil)

pub loop-c-init : goal.loop-c-init
loop-c-init c = unfold up_to joined in refl

pub loop-c-preserved : goal.loop-c-preserved
loop-c-preserved c =
    let t = c.loop-c in
    let l : t.c < count c.args.triangles.now.book.now 2 = omega arith in
    c.put_across.ensures
    ∙ ap (λ (o : List ℕ). sets o (3 * t.c) (side c.args.triangles.now.book.now t.c)) t.invariant
    ∙ put-more c.args.triangles.now.book.now c.requires.sheet c.args.out.now c.requires.room t.c l

pub returns : goal.returns
returns c =
    let t = c.loop-c in
    let e : t.c ≡ count c.args.triangles.now.book.now 2 = omega arith in
    t.invariant
    ∙ ap (λ (n : ℕ). sides c.args.triangles.now.book.now n ++ drop (length (sides c.args.triangles.now.book.now n)) c.args.out.now) e
    ∙ all-sides c.args.triangles.now.book.now c.requires.sheet c.args.out.now c.requires.room
