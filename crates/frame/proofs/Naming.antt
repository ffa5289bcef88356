-- The table of the keys that name d: antt computes that each entry names exactly those.
use mathlib.Core.Path.{◌≡◌, refl, sym}
use mathlib.Core.Bool.{Bool, true, false, not, ◌&&◌, ◌||◌}
use mathlib.Core.List.{List, [], ◌∷◌}
use Prim.Native.Nat.{ℕ, ◌/◌, ◌%◌, ◌^◌, ◌<◌}
use borrow.Author.Tests.{ltb-true}
use lib.Bits.{bit_and}
use lib.Dec.{eqb, ltb}
use lib.ListN.{get_or}
use Rattle.rules.specs.Lists.{up_to, all_of}
use Rattle.rules.specs.Book.{named, mentions}
use Rattle.rules.proofs.Opened.{opened}
use Rattle.rules.proofs.Tests.{left, right, all-at}
use Rattle.rules.proofs.Keep.{up_to-of}
use Rattle.rules.proofs.Shared.{shared}

-- the table, as the code has it
abbrev pub table : List ℕ
table = 4383 ∷ 8946 ∷ 20292 ∷ 63624 ∷ []

-- two tests that agree
alike : Bool → Bool → Bool
alike true b = b
alike false b = not b

alike-are : (a b : Bool) → alike a b ≡ true → a ≡ b
unfolding alike
alike-are true b h = sym h
alike-are false true h = h
alike-are false false h = refl

-- the entry of d is of keys below 16, and names exactly those that name d
entry : ℕ → Bool
entry d = ltb (get_or table d 0) (2 ^ 16) && all_of (λ k. alike (named (get_or table d 0) k) (eqb (k / 4) d || eqb (k % 4) d)) (up_to 16)

each : all_of entry (up_to 4) ≡ true
unfolding opened entry alike
each = refl

-- the entry meets a mask where some key of the mask names d
pub naming : (m d : ℕ) → d < 4 → not (eqb (bit_and m (get_or table d 0)) 0) ≡ mentions (named m) d
unfolding entry mentions
naming m d l =
    let x = all-at entry each (up_to-of d 4 l) in
    shared m (get_or table d 0) (λ k. eqb (k / 4) d || eqb (k % 4) d)
    (ltb-true _ _ (left _ _ x))
    (λ k h. alike-are _ _ (all-at (λ j. alike (named (get_or table d 0) j) (eqb (j / 4) d || eqb (j % 4) d)) (right (ltb (get_or table d 0) (2 ^ 16)) _ x) (up_to-of k 16 h)))
