-- The call's number and what comes with it, test by test, and what an accepted call has passed.
use mathlib.Core.Path.{◌≡◌, sym, ◌∙◌}
use mathlib.Core.Bool.{true, false}
use mathlib.Core.List.{List}
use mathlib.Core.Option.{none}
use Prim.Native.Nat.{ℕ}
use lib.ListN.{length}
use lib.Dec.{eqb}
use lib.IntN.{ℤ}
use lib.Ieee.{Float}
use borrow.Author.Tests.{ne_eqb, eq-eqb}
use Rattle.rules.specs.Lists.{all_of}
use Rattle.rules.specs.Book.{dim, key, held, frame_right, rows_right}
use Rattle.rules.specs.Broken.{broken_at, told}
use Rattle.rules.specs.Calls.{first_broken}
use Rattle.rules.specs.Phases.{counted}
use Rattle.rules.specs.Closures.{lengths_right, close_rules, close_number, accepted_for, closures_of, steps_of, bytes_of, closures_after, steps_after, bytes_after}
use Rattle.rules.proofs.Accepted.{closes}
use Rattle.rules.proofs.Told.{untold-as}
use Rattle.closing.specs.Ready.{Ready}

-- with a number that is not 11 nothing comes
pub bare : {m : ℕ} (ws : List ℕ) (n : ℕ) → eqb n 11 ≡ false → n ≡ m → (n ≡ m) × (none ≡ told m (broken_at ws))
bare ws n x e = (e, untold-as n _ _ x e)

module _ (ws : List ℕ) (counts : List ℤ) (a b d : ℕ) where
  module _ (f : frame_right ws ≡ true) where
    module _ (r : rows_right ws ≡ true) where
      pub twelve : dim ws ≡ 1 → 12 ≡ close_number ws counts a b d
      unfolding close_number close_rules first_broken
      twelve e = rw (f, r, eq-eqb (dim ws) 1 e)

      module _ (n : dim ws ≡ 1 → ⊥) where
        pub fifteen : held ws (key 1 0) ≡ false → 15 ≡ close_number ws counts a b d
        unfolding close_number close_rules first_broken
        fifteen h = rw (f, r, ne_eqb (dim ws) 1 n, h)

        module _ (h : held ws (key 1 0) ≡ true) where
          pub fifteen-too : held ws (key 2 0) ≡ false → 15 ≡ close_number ws counts a b d
          unfolding close_number close_rules first_broken
          fifteen-too g = rw (f, r, ne_eqb (dim ws) 1 n, h, g)

          module _ (g : held ws (key 2 0) ≡ true) where
            pub twenty-one : lengths_right ws counts a b d ≡ false → 21 ≡ close_number ws counts a b d
            unfolding close_number close_rules first_broken
            twenty-one l = rw (f, r, ne_eqb (dim ws) 1 n, h, g, l)

            module _ (l : lengths_right ws counts a b d ≡ true) where
              pub twenty-two : all_of counted counts ≡ false → 22 ≡ close_number ws counts a b d
              unfolding close_number close_rules first_broken
              twenty-two c = rw (f, r, ne_eqb (dim ws) 1 n, h, g, l, c)

              pub accepted : all_of counted counts ≡ true → 0 ≡ close_number ws counts a b d
              unfolding close_number close_rules first_broken
              accepted c = rw (f, r, ne_eqb (dim ws) 1 n, h, g, l, c)

  -- an accepted call has passed all tests
  pub record Passed : Type 0 where
    pub edges : Ready ws (key 1 0) counts b
    pub faces : Ready ws (key 2 0) counts a
    pub even : d ≡ b

  pub passed : close_number ws counts a b d ≡ 0 → Passed
  unfolding key
  passed z =
      let p = closes ws counts a b d z in
      record {
        edges = record { frame = p.frame; rows = p.rows; holds = p.edges; sized = p.a-vertex; right = p.lent; many = p.an-edge };
        faces = record { frame = p.frame; rows = p.rows; holds = p.faces; sized = p.a-vertex; right = p.lent; many = p.a-face };
        even = p.a_byte ∙ sym p.an-edge;
      }

-- ==== what the lists hold after it
module _ (ws : List ℕ) (counts closures : List ℤ) (steps : List Float) (bytes : List ℕ) where
  abbrev number : ℕ
  number = close_number ws counts (length closures) (length steps) (length bytes)

  pub record After (cs : List ℤ) (ss : List Float) (bs : List ℕ) : Type 0 where
    pub closures-are : cs ≡ closures_after ws counts closures steps bytes
    pub steps-are : ss ≡ steps_after ws counts closures steps bytes
    pub bytes-are : bs ≡ bytes_after ws counts closures steps bytes

  pub refused : (number ≡ 0 → ⊥) → After closures steps bytes
  unfolding closures_after steps_after bytes_after accepted_for
  refused n = let e = ne_eqb number 0 n in record { closures-are = rw e; steps-are = rw e; bytes-are = rw e }

  pub done : number ≡ 0 → (cs : List ℤ) (ss : List Float) (bs : List ℕ) → cs ≡ closures_of ws counts → ss ≡ steps_of ws counts → bs ≡ bytes_of ws counts → After cs ss bs
  unfolding closures_after steps_after bytes_after accepted_for
  done z cs ss bs p q r = let e = eq-eqb number 0 z in record { closures-are = rw e p; steps-are = rw e q; bytes-are = rw e r }
