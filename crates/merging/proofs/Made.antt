-- A book that is ready for d→d, d > 0, meets what the merge asks of its sources, and what it writes is d→d as the rules make it.
use mathlib.Core.Path.{◌≡◌, sym, ◌∙◌}
use mathlib.Core.Bool.{true}
use mathlib.Core.List.{List, [], ◌∷◌, map}
use Prim.Native.Nat.{ℕ, ◌<◌, min}
use native.Mathlib.Omega.{arith}
use lib.ListN.{length}
use Rattle.rules.specs.Lists.{up_to, all_of, rows_by}
use Rattle.rules.specs.Book.{dim, count, key, held, place}
use Rattle.rules.specs.Made.{made, neighbours}
use Rattle.rules.proofs.Tests.{left, right}
use Rattle.rules.proofs.Needs.{needs-across}
use Rattle.relations.specs.declared.Source.{Source}
use Rattle.relations.specs.Ready.{Ready, Stands}
use Rattle.merging.specs.Near.{near_row, Incidence}
use Rattle.relations.proofs.Linked.{row_is}
use Rattle.rules.proofs.FiveRules.{made-is, made-level}
use Rattle.relations.proofs.Right.{small, few, ready-rows, ready-ascends, ready-below, ready-vertices}

module _ (ws : List ℕ) where
  pub made-near : (d : ℕ) → 0 < d → d < 4
      → made ws d d ≡ map (near_row ws (place ws (key d 0)) (count ws d) (place ws (key 0 d)) (count ws 0)) (up_to (count ws d))
  unfolding near_row neighbours rows_by
  made-near d l m = made-is ws d d ∙ made-level _ _ _ d l ∙ rw (row_is ws 0 d m, row_is ws d 0 (omega arith))

-- x→0 and 0→y as a merge asks for them
module _ {ws : List ℕ} {d e dst : ℕ} (r : Ready ws d e dst) (x y : ℕ) (p : 0 < x) (l : x < 4) (m : y < 4) (hx : held ws (key x 0) ≡ true) (hy : held ws (key 0 y) ≡ true) where
  pub ready-incidence : Incidence ws (place ws (key x 0)) (count ws x) (place ws (key 0 y)) (count ws 0) (min dst (length ws))
  ready-incidence = record {
    through = record {
      owned = ready-rows r x 0 (omega arith) hx;
      backed = ready-rows r 0 y m hy;
      below = ready-below r x 0 (omega arith) hx;
      ascend = ready-ascends r 0 y m hy;
    };
    few = λ i h. omega (arith, ready-vertices r x p hx i h);
  }

module _ {ws : List ℕ} {d dst : ℕ} {own back : Source} (r : Ready ws d d dst)
    (s : Stands ws d 0 own) (t : Stands ws 0 d back) (p : 0 < d) where
  near-held : all_of (held ws) (key d 0 ∷ key 0 d ∷ []) ≡ true
  near-held = rw (needs-across (dim ws) d p) at r.sources

  pub ready-near : Incidence ws own.at.0 own.rows back.at.0 back.rows (min dst (length ws))
  unfolding all_of
  ready-near =
      let h = near-held in
      let l : d < 4 = omega (arith, small r, r.first) in
      rw (s.at, s.rows, t.at, t.rows)
      (ready-incidence r d d p l l (search (left, right)) (search (left, right)))

  pub near-few : own.rows < 65536
  near-few = rw s.rows (omega (arith, few r d r.first))

  pub near-made : map (near_row ws own.at.0 own.rows back.at.0 back.rows) (up_to own.rows) ≡ made ws d d
  near-made = rw (s.at, s.rows, t.at, t.rows) (sym (made-near ws d p (omega (arith, small r, r.first))))
