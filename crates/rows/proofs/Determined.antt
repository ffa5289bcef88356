-- Two outcomes that a contract of this crate allows are equal, where the result is more than one number or truth value.
use mathlib.Core.Path.{◌≡◌, refl, sym, ap, ap₂, ◌∙◌}
use mathlib.Core.List.{List}
use mathlib.Core.Option as maybe
use Prim.Native.Nat.{ℕ}
use denote.Ref.{Bor}
use Rattle.std.specs.Prelude.{Option, Some, None}
use Rattle.rules.specs.Broken.{broken_at}
use Rattle.kinds.specs.declared.refusals.Broken.{Broken}
use Rattle.rows.specs.Parts.{RowPart}
use Rattle.rows.specs.Answers.{rows_place}

-- a row: the same words at the same address
pub rows-equal : (book r s : Bor (List ℕ)) (k i : ℕ) → RowPart book r k i → RowPart book s k i → (r.now ≡ s.now) × (r.ref_ptr ≡ s.ref_ptr)
rows-equal book r s k i e f =
    (e.words ∙ sym f.words, ap₂ (λ (b o : ℕ). (b, o)) (e.block ∙ sym f.block) (e.start ∙ sym f.start))

-- where the rows are broken: nothing, or the place that two numbers make
rows_of : maybe.Option (ℕ × ℕ) → Option Broken
rows_of maybe.none = None
rows_of (maybe.some (k, p)) = Some (record { key = k; position = p })

rows_back : (a : Option Broken) → rows_of (rows_place a) ≡ a
unfolding rows_of
rows_back None = refl
rows_back (Some b) = refl

pub broken-determined : (ws : List ℕ) (a b : Option Broken) → rows_place a ≡ broken_at ws → rows_place b ≡ broken_at ws → a ≡ b
broken-determined ws a b e f = sym (rows_back a) ∙ ap rows_of (e ∙ sym f) ∙ rows_back b
