-- Each test decides the number, and with it the answer, or leaves the rules behind it.
use mathlib.Core.Path.{◌≡◌, refl, sym, ◌∙◌}
use mathlib.Core.Bool.{Bool, true, false, cond}
use mathlib.Core.Option.{none}
use mathlib.Core.List.{List}
use Prim.Native.Nat.{ℕ, ◌≤◌, ◌<◌}
use lib.Dec.{eqb, leb}
use borrow.Author.Tests.{lt-ltb, le-ltb}
use Rattle.rules.specs.Book.{dim, frame_right, rows_right}
use Rattle.rules.specs.Broken.{broken_at, told}
use Rattle.rules.specs.Calls.{first_broken}
use Rattle.rules.specs.Truth.{Mesh, number}
use Rattle.rules.specs.Plain.{mesh_in, plain_rules, plain_number, plain_yes}
use Rattle.std.specs.Prelude.{Result}
use Rattle.kinds.specs.declared.refusals.Refusal.{Refusal}
use Rattle.kinds.specs.Refusals.{answer_number, answer_place, given}
use Rattle.plain.specs.Answers.{by_counts, said_of}

not-eleven : (m : Mesh) (d e i j : ℕ) → eqb (by_counts m d e i j) 11 ≡ false
unfolding by_counts first_broken
not-eleven m d e i j = go (leb (number m d) i) (leb (number m e) j)
  where
    go : (x y : Bool) → eqb (cond x 17 (cond y 19 0)) 11 ≡ false
    go true y = refl
    go false true = refl
    go false false = refl

module _ (ws : List ℕ) (d e i j : ℕ) where
  -- what the contract says of an answer
  abbrev pub Answers : Result Bool Refusal → Type 0
  Answers r = (answer_number r ≡ plain_number ws d e i j) × ((given false (λ y. y) r ≡ plain_yes ws d e i j) × (answer_place r ≡ told (plain_number ws d e i j) (broken_at ws)))

  no-yes : (n : ℕ) → eqb n 0 ≡ false → plain_number ws d e i j ≡ n → false ≡ plain_yes ws d e i j
  unfolding plain_yes
  no-yes n z p = rw (p, z)

  no_place : (n : ℕ) → eqb n 11 ≡ false → plain_number ws d e i j ≡ n → none ≡ told (plain_number ws d e i j) (broken_at ws)
  unfolding told
  no_place n z p = rw (p, z)

  -- a refusal with a number alone
  pub bare : (r : Result Bool Refusal) (n : ℕ) → eqb n 0 ≡ false → eqb n 11 ≡ false → answer_number r ≡ n → given false (λ y. y) r ≡ false → answer_place r ≡ none → plain_number ws d e i j ≡ n → Answers r
  bare r n z w a y q p = (a ∙ sym p, (y ∙ no-yes n z p, q ∙ no_place n w p))

  module _ (f : frame_right ws ≡ true) where
    module _ (r : rows_right ws ≡ true) where
      pub plain-12-first : dim ws < d → plain_number ws d e i j ≡ 12
      unfolding plain_number plain_rules first_broken
      plain-12-first l = rw (f, r, lt-ltb (dim ws) d l)

      pub plain-12-second : d ≤ dim ws → dim ws < e → plain_number ws d e i j ≡ 12
      unfolding plain_number plain_rules first_broken
      plain-12-second k l = rw (f, r, le-ltb (dim ws) d k, lt-ltb (dim ws) e l)

      module _ (k : d ≤ dim ws) (l : e ≤ dim ws) where
        counts-decide : plain_number ws d e i j ≡ by_counts (mesh_in ws) d e i j
        unfolding plain_number plain_rules by_counts first_broken
        counts-decide = rw (f, r, le-ltb (dim ws) d k, le-ltb (dim ws) e l)

        -- the mesh decides the rest, and 11 is not among it
        pub by-mesh : (w : Result Bool Refusal) → answer_number w ≡ by_counts (mesh_in ws) d e i j → given false (λ y. y) w ≡ said_of (mesh_in ws) d e i j → answer_place w ≡ none → Answers w
        unfolding plain_yes said_of
        by-mesh w a y q = (a ∙ sym counts-decide, (y ∙ rw counts-decide, q ∙ no_place (by_counts (mesh_in ws) d e i j) (not-eleven (mesh_in ws) d e i j) counts-decide))
