-- A book that is ready for d→0 has cells as the code asks for them, and the sets met are d→0 as the rules make it.
use mathlib.Core.Path.{◌≡◌, refl, sym, ap, ◌∙◌}
use mathlib.Core.Bool.{true}
use mathlib.Core.List.{List, [], map}
use Prim.Native.Nat.{ℕ, ◌+◌, ◌<◌}
use native.Mathlib.Omega.{arith}
use borrow.Author.Tests.{ltb-true, lt-ltb}
use lib.ListN.{length, take, length-map}
use lib.Dec.{ltb}
use Rattle.rules.specs.Lists.{up_to}
use Rattle.rules.specs.Book.{dim, count, key, held}
use Rattle.rules.specs.Made.{built, made}
use Rattle.rules.proofs.Tests.{all_weaker}
use Rattle.rules.proofs.FrameRule.{Framed, framed}
use Rattle.rules.proofs.FiveRules.{made-is, made-set}
use Rattle.rules.proofs.Built.{built-size}
use Rattle.relations.specs.Words.{row_at}
use Rattle.relations.specs.Ready.{Ready}
use Rattle.relations.proofs.Placed.{rows-within}
use Rattle.relations.proofs.Linked.{row_is}
use Rattle.relations.proofs.Right.{ready-rows, ready-ascends, ready-below, ready-vertices}
use Rattle.building.specs.Sets.{padded}
use Rattle.building.specs.Cells.{Between, Source, Corners}
use Rattle.building.proofs.Padding.{padded-back}

module _ {ws : List ℕ} {d dst D at n : ℕ} (r : Ready ws d 0 dst) (s : Source ws D at n) (p : 0 < d) where
  frame : Framed ws
  frame = framed ws r.frame

  pub between : Between d D
  between = record {
    low = p;
    high = rw s.top (lower (λ e. r.below e refl));
    most = omega (arith, s.top, frame.high);
  }
    where
      lower : (d ≡ dim ws → ⊥) → d < dim ws
      lower f = omega (arith, r.first)

  pub ready-corners : Corners ws D at n
  ready-corners =
      let e = s.top in
      let h : held ws (key (dim ws) 0) ≡ true = frame.top in
      rw (s.stands, s.rows, e)
      (record {
        rows = rows-within (ready-rows r (dim ws) 0 (omega arith) h) (length ws) (omega arith);
        few = frame.cells;
        size = ready-vertices r (dim ws) (omega (arith, frame.low)) h;
        up = ready-ascends r (dim ws) 0 (omega arith) h;
        below = λ i l. all_weaker (λ v. ltb v (count ws 0)) (λ v. ltb v 8192) (λ v q. lt-ltb v 8192 (omega (arith, ltb-true v (count ws 0) q, frame.vertices))) _
            (ready-below r (dim ws) 0 (omega arith) h i l);
      })

  sets-made : built d [] (map (row_at ws at n) (up_to n)) ≡ made ws d 0
  sets-made =
      rw (s.stands, s.rows, s.top)
      (sym (made-is ws d 0 ∙ made-set _ _ _ d p ∙ rw (row_is ws (dim ws) 0 (omega arith))))

  module _ (es : List (List ℕ)) (e : es ≡ map (padded d) (built d [] (map (row_at ws at n) (up_to n)))) where
    pub made-rows : map (take (d + 1)) es ≡ made ws d 0
    made-rows =
        ap (map (take (d + 1))) e
        ∙ padded-back d (built d [] (map (row_at ws at n) (up_to n))) (λ t i. built-size d t _ i)
        ∙ sets-made

    pub made-count : length es ≡ length (made ws d 0)
    made-count = ap length e ∙ length-map (built d [] (map (row_at ws at n) (up_to n))) (padded d) ∙ ap length sets-made
