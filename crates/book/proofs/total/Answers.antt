-- The last offset stands N_d words behind the place.
use mathlib.Core.Path.{ap₂, ◌∙◌, ap}
use Prim.Native.Nat.{ℕ, ◌+◌}
use native.Mathlib.Omega.{arith}
use lib.ListN.{get_or}
use Rattle.rules.specs.Book.{offset, total}
use Rattle.rules.proofs.AnyWords.{place-low}
use Rattle.book.proofs.total.Goals as goal

pub overflow_add-place_of : goal.overflow_add-place_of
overflow_add-place_of c =
    let a = c.args in
    omega (arith, c.place_of.ensures, place-low a.book.now (λ i. (c.type_inv.book i).fits) a.k, c.count.type_inv)

pub returns : goal.returns
unfolding total offset
returns c =
    let a = c.args in
    c.word.ensures ∙ ap (λ (i : ℕ). get_or a.book.now i 0) (ap₂ (λ (p n : ℕ). p + n) c.place_of.ensures c.count.ensures)
