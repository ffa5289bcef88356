-- Rows of one length are the same where each pair of words is equal.
use mathlib.Core.Path.{◌≡◌, refl, sym, ap, ◌∙◌}
use mathlib.Core.Bool.{Bool, false, ◌&&◌}
use mathlib.Core.List.{List, [], ◌∷◌}
use mathlib.Core.Logic.{inl, inr}
use Prim.Native.Nat.{ℕ}
use native.Mathlib.Omega.{arith}
use borrow.Author.Rules.{rules}
use borrow.Author.Tests.{tests, ne_eqb}
use lib.ListN.{length}
use lib.Dec.{eqb}
use Rattle.std.specs.List.{list_all, zip}
use Rattle.std.proofs.lemmas.Iterator.{YieldsList-from_slice, YieldsList-from_zip}
use Rattle.std.proofs.lemmas.Iterator.Search.{all_from_yields_List}
use Rattle.rules.specs.Lists.{same}
use Rattle.rules.proofs.Tests.{cases, same-is}
use Rattle.repeats.proofs.equal.Goals as goal

-- rows that differ are not the same
differ : (a b : List ℕ) → (a ≡ b → ⊥) → false ≡ same a b
differ a b f = elim (cases (same a b)) [ inl e ↦ absurd (f (same-is a b e)) | inr e ↦ sym e ]

abbrev pair_equal : ℕ × ℕ → Bool
pair_equal p = eqb p.0 p.1

pairs-same : (xs ys : List ℕ) → length xs ≡ length ys → list_all pair_equal (zip xs ys) ≡ same xs ys
unfolding same
pairs-same [] [] e = refl
pairs-same [] (y ∷ ys) e = absurd (omega arith)
pairs-same (x ∷ xs) [] e = absurd (omega arith)
pairs-same (x ∷ xs) (y ∷ ys) e = ap (λ (b : Bool). eqb x y && b) (pairs-same xs ys (omega arith))

pub returns-then-one-other : goal.returns-then-one-other
returns-then-one-other c =
    let xs = c.args.one.now in
    let ys = c.args.other.now in
    let f = all_from_yields_List pair_equal c.all.new.self _ c.all.result c.all.ensures.ran (YieldsList-from_zip (YieldsList-from_slice xs (search rules)) (YieldsList-from_slice ys (search rules))) (λ x b q k. search (rules, tests)) in
    f ∙ pairs-same xs ys c.if-one-other.true

pub returns-else-one-other : goal.returns-else-one-other
returns-else-one-other c = rw (ne_eqb (length c.args.one.now) (length c.args.other.now) c.if-one-other.false) (differ _ _ (λ e. c.if-one-other.false (ap length e)))
