-- What is written for a file and what is known then, where it is refused and where it is accepted.
use mathlib.Core.Path.{◌≡◌, refl, sym, ap, ◌∙◌}
use mathlib.Core.Bool.{Bool, true, false, cond}
use mathlib.Core.List.{List, [], ◌∷◌}
use Prim.Native.Nat.{ℕ, ◌-◌, ◌*◌, ◌≤◌}
use native.Mathlib.Omega.{arith}
use lib.ListN.{length, get_or}
use lib.Dec.{eqb}
use lib.Seq.{take_all}
use borrow.Author.Tests.{ne_eqb, eqb-true}
use Rattle.std.specs.Prelude.{Result, Ok, Err}
use Rattle.rules.specs.Lists.{all_of}
use Rattle.rules.specs.File.{file_cells}
use Rattle.rules.specs.Calls.{at_front}
use Rattle.rules.specs.Salvage.{kept, dropped_count, saved, saved_length, spare_was, pad_was, length_was, salvage_rules, salvage_number, salvage_given, salvage_bytes}
use Rattle.rules.proofs.Accepted.{Salvages, salvages}
use Rattle.rules.proofs.Salvaged.{saved-short, all-accounted}
use Rattle.kinds.specs.declared.refusals.Refusal.{Refusal}
use Rattle.kinds.specs.Refusals.{refusal_number, answer_number}
use Rattle.kinds.proofs.Determined.{refused-accepted, bare, silent, silent-alike, number-has}
use Rattle.salvaging.specs.Answers.{saved_given}
use Rattle.salvaging.specs.declared.answers.Saved.{Saved}
use Rattle.report.specs.Lines.{refused_line}
use Rattle.report.specs.Printed.{Printed}
use Rattle.report.proofs.Putting.{printed-wide}
use Rattle.telling.specs.Program.{answered, outcome_of}
use Rattle.telling.specs.declared.Outcome.{Outcome}

-- a truth value told as 1 or 0 is told back
flag-back : {b d : Bool} → ◌≡◌ {A = ℕ} (cond b 1 0) (cond d 1 0) → b ≡ d
flag-back {b = true} {d = true} e = refl
flag-back {b = true} {d = false} e = absurd (omega (arith, e))
flag-back {b = false} {d = true} e = absurd (omega (arith, e))
flag-back {b = false} {d = false} e = refl

module _ (f bs ls : List ℕ) where
  -- ---- refused
  module _ (r : Refusal) (e : refusal_number r ≡ salvage_number f bs ls) where
    -- what is known
    pub refused-outcome : {l k : ℕ} → l ≡ length (refused_line (refusal_number r)) → k ≡ file_cells f → (record { number = refusal_number r; length = l; cells = k; kept = 0; dropped = 0; spare = false; pad = false; wrong_length = false }) ≡ outcome_of f bs ls
    unfolding outcome_of answered
    refused-outcome a b = rw (← e, ne_eqb (refusal_number r) 0 (refused-accepted r), a, b)

    -- what is written, over bytes that the call left as they were
    pub refused-text : {l : ℕ} {cs : List ℕ} → Printed 19 (refused_line (refusal_number r)) (salvage_bytes f bs ls) l cs → Printed 26628 (answered f bs ls) bs l cs
    unfolding answered salvage_bytes at_front
    refused-text p =
        let h = refused-accepted r in
        rw (← e, ne_eqb (refusal_number r) 0 h) (printed-wide 26628 (omega arith) (rw (← e, ne_eqb (refusal_number r) 0 h) at p))

  -- ---- accepted
  module _ (s : Saved) (z : 0 ≡ salvage_number f bs ls) (g : saved_given s ≡ salvage_given f bs ls) where
    -- what it has passed
    fine : Salvages f bs ls
    fine = salvages f bs ls (sym z)

    -- what the call gives
    told : saved_given s ≡ saved_length f ∷ dropped_count f ∷ cond (spare_was f) 1 0 ∷ cond (pad_was f) 1 0 ∷ cond (length_was f) 1 0 ∷ []
    unfolding salvage_given
    told = g ∙ rw (← z) refl

    place : (i : ℕ) → get_or (saved_given s) i 0 ≡ get_or (saved_length f ∷ dropped_count f ∷ cond (spare_was f) 1 0 ∷ cond (pad_was f) 1 0 ∷ cond (length_was f) 1 0 ∷ []) i 0
    place i = ap (λ (l : List ℕ). get_or l i 0) told

    long : s.length ≡ saved_length f
    unfolding saved_given
    long = place 0

    lost : s.dropped ≡ dropped_count f
    unfolding saved_given
    lost = place 1

    -- the cells dropped are no more than there are
    pub count-few : s.dropped ≤ file_cells f
    count-few = omega (arith, lost, all-accounted f)

    pub count_low : s.dropped ≤ 4096
    count_low = omega (arith, count-few, fine.head.cells)

    -- no file is longer than the lent bytes of the program
    pub length-few : s.length ≤ 26628
    length-few = omega (arith, long, saved-short f fine.head)

    -- what is known
    pub accepted-outcome : {k : ℕ} → k ≡ file_cells f
        → (record { number = 0; length = s.length; cells = k; kept = k - s.dropped; dropped = s.dropped; spare = s.spare; pad = s.pad; wrong_length = s.wrong_length }) ≡ outcome_of f bs ls
    unfolding outcome_of answered saved_length saved_given
    accepted-outcome {k} a =
        let d : k - s.dropped ≡ length (kept f) = omega (arith, lost, a, all-accounted f) in
        let e : s.spare ≡ spare_was f = flag-back (place 2) in
        let h : s.pad ≡ pad_was f = flag-back (place 3) in
        let w : s.wrong_length ≡ length_was f = flag-back (place 4) in
        rw (← z, long, d, lost, a, e, h, w)

    -- what is written
    pub accepted-text : {cs : List ℕ} → cs ≡ salvage_bytes f bs ls → Printed 26628 (answered f bs ls) bs s.length cs
    unfolding answered salvage_bytes at_front saved_length
    accepted-text c = rw (← z) (record { size = long; short = length-few; bytes = (rw (← z) at c) ∙ rw (long, take_all (length bs) (saved f) fine.room) refl })

-- the list has room for the pairs of the cells dropped
pub pairs-fit : (f bs ls : List ℕ) {o : Outcome} → o ≡ outcome_of f bs ls → 2 * o.dropped ≤ length ls
unfolding outcome_of
pairs-fit f bs ls e = rw e (go (eqb (salvage_number f bs ls) 0) refl)
  where
    go : (b : Bool) → eqb (salvage_number f bs ls) 0 ≡ b → 2 * cond b (dropped_count f) 0 ≤ length ls
    go true e = omega (arith, (salvages f bs ls (eqb-true _ _ e)).places, all-accounted f)
    go false e = omega arith
