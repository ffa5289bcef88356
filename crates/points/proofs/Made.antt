-- A book that is ready for 0→0 meets what is asked of 0→D and D→0, and what is written is 0→0 as the rules make it.
use mathlib.Core.Path.{◌≡◌, refl, sym, ◌∙◌}
use mathlib.Core.Bool.{true}
use mathlib.Core.List.{List, [], ◌∷◌, map}
use Prim.Native.Nat.{ℕ, ◌<◌, min}
use native.Mathlib.Omega.{arith}
use lib.ListN.{length}
use Rattle.rules.specs.Lists.{up_to, all_of, rows_by}
use Rattle.rules.specs.Book.{dim, count, key, held, place}
use Rattle.rules.specs.Made.{made, vertex_neighbours}
use Rattle.rules.proofs.Tests.{left, right}
use Rattle.rules.proofs.Needs.{needs-vertices}
use Rattle.relations.specs.declared.Source.{Source}
use Rattle.relations.specs.Ready.{Ready, Stands}
use Rattle.merging.specs.Near.{near_row}
use Rattle.points.specs.Points.{Around}
use Rattle.relations.proofs.Linked.{row_is}
use Rattle.rules.proofs.FiveRules.{made-is, made-points}
use Rattle.relations.proofs.Right.{frame, small, ready-rows, ready-ascends, ready-below}

module _ (ws : List ℕ) where
  pub made-around : (D : ℕ) → D ≡ dim ws → D < 4
      → made ws 0 0 ≡ map (near_row ws (place ws (key 0 D)) (count ws 0) (place ws (key D 0)) (count ws D)) (up_to (count ws 0))
  unfolding near_row vertex_neighbours rows_by
  made-around D e m = made-is ws 0 0 ∙ made-points _ _ _ ∙ rw (← e, row_is ws 0 D m, row_is ws D 0 (omega arith))

-- ---- 0→0
module _ {ws : List ℕ} {dst : ℕ} {own back : Source} (r : Ready ws 0 0 dst)
    (s : Stands ws 0 (dim ws) own) (t : Stands ws (dim ws) 0 back) where
  points-held : all_of (held ws) (key 0 (dim ws) ∷ key (dim ws) 0 ∷ []) ≡ true
  points-held = rw (needs-vertices (dim ws)) at r.sources

  pub ready-points : Around ws own.at.0 own.rows back.at.0 back.rows (min dst (length ws))
  unfolding all_of
  ready-points =
      let h = points-held in
      let up : held ws (key 0 (dim ws)) ≡ true = search (left, right) in
      let down : held ws (key (dim ws) 0) ≡ true = search (left, right) in
      rw (s.at, s.rows, t.at, t.rows)
      (record {
        through = record {
          owned = ready-rows r 0 (dim ws) (small r) up;
          backed = ready-rows r (dim ws) 0 (omega arith) down;
          below = ready-below r 0 (dim ws) (small r) up;
          ascend = ready-ascends r (dim ws) 0 (omega arith) down;
        };
        again = ready-below r (dim ws) 0 (omega arith) down;
        most = (frame r).vertices;
      })

  pub points-made : map (near_row ws own.at.0 own.rows back.at.0 back.rows) (up_to own.rows) ≡ made ws 0 0
  points-made = rw (s.at, s.rows, t.at, t.rows) (sym (made-around ws (dim ws) refl (small r)))
