-- The calls' numbers and what comes with them, test by test; the tests of the coordinates are worked once for both.
use mathlib.Core.Path.{◌≡◌, refl, sym, ap, ◌∙◌}
use mathlib.Core.Bool.{true, false, cond, not, ◌&&◌, ◌||◌}
use mathlib.Core.Logic.{inl, inr}
use mathlib.Core.List.{List, []}
use mathlib.Core.Option.{Option, none, some}
use Prim.Native.Nat.{ℕ, ◌*◌, ◌<◌, ◌≤◌}
use native.Mathlib.Omega.{arith}
use lib.ListN.{length}
use lib.Dec.{eqb, ltb}
use lib.Ieee.{Float}
use lib.Ieee.Scale.{finite}
use borrow.Author.Tests.{eq-eqb, ne_eqb, lt-ltb, le-ltb, le-leb, lt-leb, eqb-false}
use Rattle.rules.specs.Lists.{all_of}
use Rattle.rules.specs.Book.{dim, count, key, held, frame_right, rows_right}
use Rattle.rules.specs.Broken.{broken_at, told}
use Rattle.rules.specs.Calls.{first_broken}
use Rattle.rules.specs.Boxes.{coordinate_rules, box_rules, box_number, whole_rules, whole_number}
use Rattle.rules.proofs.Compared.{lt-or-le}
use Rattle.rules.proofs.Told.{told-eleven, untold-as}
use Rattle.std.specs.Prelude.{Result, IsErrAnd}
use Rattle.kinds.specs.declared.refusals.Refusal.{Refusal}
use Rattle.kinds.specs.Refusals.{refusal_number, refusal_place, answer_number, answer_place, given as gives}
use Rattle.kinds.proofs.Determined.{handed-on, refused-accepted, placed-eleven}

-- ==== what comes with a number
-- the number, the place and the ends of an answer are those of a call with number m, where `box` is the box of an accepted one
abbrev pub Answered : List ℕ → List Float → ℕ → ℕ → Option (ℕ × ℕ) → List Float → Type 0
Answered ws box m n place ends = (n ≡ m) × ((place ≡ told m (broken_at ws)) × (ends ≡ cond (eqb m 0) box []))

module _ (ws : List ℕ) (box : List Float) where
  -- a refusal other than 11 comes alone
  pub bare : {m : ℕ} (n : ℕ) → eqb n 11 ≡ false → eqb n 0 ≡ false → n ≡ m → Answered ws box m n none []
  bare n x z e = (e, (untold-as n _ _ x e, rw (← e, z)))

  -- 11 comes with the place that was found
  pub found : {m : ℕ} (at : ℕ × ℕ) → some at ≡ broken_at ws → 11 ≡ m → Answered ws box m 11 (some at) []
  found at p e = (e, (p ∙ told-eleven _ _ e, rw (← e)))

  -- and an accepted call gives the box
  pub given : {m : ℕ} (ends : List Float) → ends ≡ box → 0 ≡ m → Answered ws box m 0 none ends
  given ends p e = (e, (untold-as 0 _ _ refl e, rw (← e) p))

  -- a refusal that is handed on, and tells no place
  pub passed-on : {A : Type 0} {m : ℕ} (view : A → List Float) (r : Refusal) (a : Result A Refusal) → IsErrAnd a (λ s. s ≡ r) → refusal_place r ≡ none → refusal_number r ≡ m
      → Answered ws box m (answer_number a) (answer_place a) (gives [] view a)
  passed-on view r a e p n =
      let h = handed-on a r e in
      let all = bare (refusal_number r) (placed-eleven r p) (ne_eqb (refusal_number r) 0 (refused-accepted r)) n in
      (ap answer_number h ∙ all.0, (ap answer_place h ∙ p ∙ all.1.0, ap (gives [] view) h ∙ all.1.1))

-- ==== the coordinates
module _ (ws : List ℕ) (coordinates : List Float) (axes : ℕ) where
  -- the number of lent coordinates
  abbrev pub coordinate_number : ℕ
  coordinate_number = first_broken (coordinate_rules ws coordinates axes) 0

  pub axes-low : axes < 2 → 26 ≡ coordinate_number
  unfolding coordinate_rules first_broken
  axes-low l = rw (ne_eqb axes 2 (omega arith), ne_eqb axes 3 (omega arith))

  pub axes-high : 3 < axes → 26 ≡ coordinate_number
  unfolding coordinate_rules first_broken
  axes-high l = rw (ne_eqb axes 2 (omega arith), ne_eqb axes 3 (omega arith))

  module _ (low : 2 ≤ axes) (high : axes ≤ 3) where
    two-or-three : (eqb axes 2 || eqb axes 3) ≡ true
    two-or-three =
        elim (lt-or-le axes 3) [
          | inl l ↦ rw (eq-eqb axes 2 (omega arith))
          | inr l ↦ rw (ne_eqb axes 2 (omega arith), eq-eqb axes 3 (omega arith))
        ]

    pub length-off : eqb (length coordinates) (axes * count ws 0) ≡ false → 21 ≡ coordinate_number
    unfolding coordinate_rules first_broken
    length-off l = rw (two-or-three, l)

    module _ (l : eqb (length coordinates) (axes * count ws 0) ≡ true) where
      pub not_finite : all_of finite coordinates ≡ false → 27 ≡ coordinate_number
      unfolding coordinate_rules first_broken
      not_finite b = rw (two-or-three, l, b)

      pub lendable : all_of finite coordinates ≡ true → 0 ≡ coordinate_number
      unfolding coordinate_rules first_broken
      lendable b = rw (two-or-three, l, b)

  -- coordinates that may be lent have no more than three axes
  pub few-axes : 0 ≡ coordinate_number → axes ≤ 3
  few-axes z = elim (lt-or-le 3 axes) [ inl l ↦ absurd (eqb-false 0 26 refl (z ∙ sym (axes-high l))) | inr l ↦ l ]

-- ==== the box of an entity
module _ (ws : List ℕ) (coordinates : List Float) (axes d i : ℕ) where
  module _ (f : frame_right ws ≡ true) where
    module _ (r : rows_right ws ≡ true) where
      pub box-12 : dim ws < d → 12 ≡ box_number ws coordinates axes d i
      unfolding box_number box_rules first_broken
      box-12 l = rw (f, r, lt-ltb (dim ws) d l)

      module _ (l : d ≤ dim ws) where
        pub box-15 : (ltb 0 d && not (held ws (key d 0))) ≡ true → 15 ≡ box_number ws coordinates axes d i
        unfolding box_number box_rules first_broken
        box-15 h = rw (f, r, le-ltb (dim ws) d l, h)

        module _ (h : (ltb 0 d && not (held ws (key d 0))) ≡ false) where
          pub box-17 : count ws d ≤ i → 17 ≡ box_number ws coordinates axes d i
          unfolding box_number box_rules first_broken
          box-17 t = rw (f, r, le-ltb (dim ws) d l, h, le-leb (count ws d) i t)

          -- then the coordinates decide
          pub box-rest : i < count ws d → coordinate_number ws coordinates axes ≡ box_number ws coordinates axes d i
          unfolding box_number box_rules first_broken
          box-rest t = rw (f, r, le-ltb (dim ws) d l, h, lt-leb (count ws d) i t)

-- ==== the box of the whole mesh
module _ (ws : List ℕ) (coordinates : List Float) (axes : ℕ) where
  module _ (f : frame_right ws ≡ true) where
    -- then the coordinates decide
    pub whole-rest : rows_right ws ≡ true → coordinate_number ws coordinates axes ≡ whole_number ws coordinates axes
    unfolding whole_number whole_rules first_broken
    whole-rest r = rw (f, r)
