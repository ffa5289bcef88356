-- The vertices of one entity as words, and how many they are.
use mathlib.Core.Path.{◌≡◌, refl, sym, ap, ◌∙◌}
use mathlib.Core.List.{List, map, map-map}
use Prim.Native.Nat.{ℕ, ◌+◌, ◌*◌, ◌<◌}
use native.Mathlib.Omega.{arith}
use lib.ListN.{length, get_or, set, take}
use lib.Seq.{length-take-le}
use Rattle.relations.specs.Words.{Written}
use Rattle.relations.proofs.Appended.{written_none, written-more}
use Rattle.rules.specs.Lists.{up_to}
use Rattle.building.specs.Sets.{entity, entities, vertices}

pub vertices-length : (d : ℕ) (sets : List ℕ) → d < 3 → (i : ℕ) → length (vertices d sets i) ≡ d + 1
unfolding vertices entity
vertices-length d sets l i = length-take-le (d + 1) _ (omega arith)

-- the entities' vertices, from the list of the entities
pub entities-rows : (d : ℕ) (sets : List ℕ) (n : ℕ) (es : List (List ℕ)) → entities sets n ≡ es → map (vertices d sets) (up_to n) ≡ map (take (d + 1)) es
unfolding entities vertices
entities-rows d sets n es e = sym (map-map (take (d + 1)) (entity sets) (up_to n)) ∙ ap (map (take (d + 1))) e

module _ (ws sets : List ℕ) (at i d : ℕ) where
  pub two-written : d ≡ 1 → Written ws at (vertices d sets i) (at + (d + 1)) (set (set ws at (get_or sets (3 * i) 0)) (at + 1) (get_or sets (3 * i + 1) 0))
  unfolding vertices entity
  two-written e =
      let g : at + 1 + 1 ≡ at + (1 + 1) = omega arith in
      rw (e, ← g) (written-more (written-more (written_none ws at at refl) (get_or sets (3 * i) 0)) (get_or sets (3 * i + 1) 0))

  pub three-written : d ≡ 2 → Written ws at (vertices d sets i) (at + (d + 1)) (set (set (set ws at (get_or sets (3 * i) 0)) (at + 1) (get_or sets (3 * i + 1) 0)) (at + 2) (get_or sets (3 * i + 2) 0))
  unfolding vertices entity
  three-written e =
      let f : at + 1 + 1 ≡ at + 2 = omega arith in
      let g : at + 2 + 1 ≡ at + (2 + 1) = omega arith in
      rw (e, ← g)
      (written-more (rw f at (written-more (written-more (written_none ws at at refl) (get_or sets (3 * i) 0)) (get_or sets (3 * i + 1) 0))) (get_or sets (3 * i + 2) 0))
