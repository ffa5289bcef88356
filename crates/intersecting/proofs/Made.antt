-- A book that is ready for d→e, d > e > 0, meets what the merge asks of its sources, and what it writes is d→e as the rules make it.
use mathlib.Core.Path.{◌≡◌, sym, ◌∙◌}
use mathlib.Core.Bool.{true}
use mathlib.Core.List.{List, [], ◌∷◌, map}
use Prim.Native.Nat.{ℕ, ◌<◌, min}
use native.Mathlib.Omega.{arith}
use lib.ListN.{length}
use Rattle.rules.specs.Lists.{up_to, all_of, rows_by}
use Rattle.rules.specs.Book.{dim, count, key, held, place}
use Rattle.rules.specs.Made.{made, intersected}
use Rattle.rules.proofs.Tests.{left, right}
use Rattle.rules.proofs.Needs.{needs-down}
use Rattle.relations.specs.Words.{Rows}
use Rattle.relations.specs.declared.Source.{Source}
use Rattle.relations.specs.Ready.{Ready, Stands}
use Rattle.merging.specs.Near.{Incidence}
use Rattle.relations.proofs.Linked.{row_is}
use Rattle.rules.proofs.FiveRules.{made-is, made-down}
use Rattle.relations.proofs.Right.{small, few, ready-rows}
use Rattle.intersecting.specs.Inner.{inner_row}
use Rattle.merging.proofs.Made.{ready-incidence}

module _ (ws : List ℕ) where
  pub made-inner : (d e : ℕ) → 0 < e → e < d → d < 4
      → made ws d e
      ≡ map (inner_row ws (place ws (key d 0)) (count ws d) (place ws (key 0 e)) (count ws 0) (place ws (key e 0)) (count ws e)) (up_to (count ws d))
  unfolding inner_row intersected rows_by
  made-inner d e l m h =
      made-is ws d e ∙ made-down _ _ _ d e l m ∙ rw (row_is ws 0 e (omega arith), row_is ws d 0 (omega arith), row_is ws e 0 (omega arith))

module _ {ws : List ℕ} {d e dst : ℕ} {own back sub : Source} (r : Ready ws d e dst)
    (s : Stands ws d 0 own) (t : Stands ws 0 e back) (u : Stands ws e 0 sub) (p : 0 < e) (q : e < d) where
  inner-held : all_of (held ws) (key d 0 ∷ key 0 e ∷ key e 0 ∷ []) ≡ true
  inner-held = rw (needs-down (dim ws) d e p q) at r.sources

  pub ready-inner : Incidence ws own.at.0 own.rows back.at.0 back.rows (min dst (length ws))
  unfolding all_of
  ready-inner =
      let h = inner-held in
      let l : d < 4 = omega (arith, small r, r.first) in
      rw (s.at, s.rows, t.at, t.rows)
      (ready-incidence r d e (omega arith) l (omega arith) (search (left, right)) (search (left, right)))

  pub ready-sub : Rows ws sub.at.0 sub.rows (min dst (length ws))
  unfolding all_of
  ready-sub =
      let h = inner-held in
      rw (u.at, u.rows) (ready-rows r e 0 (omega arith) (search (left, right)))

  pub inner-few : (own.rows < 65536) × (sub.rows < 65536)
  inner-few = rw (s.rows, u.rows) (omega (arith, few r d r.first), omega (arith, few r e r.second))

  pub inner_made : map (inner_row ws own.at.0 own.rows back.at.0 back.rows sub.at.0 sub.rows) (up_to own.rows) ≡ made ws d e
  inner_made =
      rw (s.at, s.rows, t.at, t.rows, u.at, u.rows) (sym (made-inner ws d e p q (omega (arith, small r, r.first))))
