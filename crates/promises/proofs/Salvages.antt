-- Salvage, promised.
use mathlib.Core.Path.{◌≡◌, refl}
use mathlib.Core.Bool.{Bool, true, false, cond}
use mathlib.Core.List.{List, [], ◌∷◌}
use Prim.Native.Nat.{ℕ, ◌+◌, ◌*◌, ◌≤◌}
use native.Mathlib.Nat.{le_refl}
use native.Mathlib.Omega.{arith}
use lib.ListN.{length, replicate, length-replicate}
use lib.Dec.{eqb, ltb}
use borrow.Author.Tests.{ltb-false, le-ltb, eqb-false}
use Rattle.rules.specs.Lists.{has, any_of}
use Rattle.rules.specs.File.{file_dim, file_vertices, file_cells, file_cell, out_of, twice}
use Rattle.rules.specs.Calls.{first_broken, at_front}
use Rattle.rules.specs.Salvage.{Headed, cut_off, equal_to, cell_fault, kept_of, why, kept, dropped_pairs, saved, saved_length, salvage_rules, salvage_number, salvage_given, salvage_bytes, salvage_list}
use Rattle.promises.specs.Salvages.{SavedCells, SavedLoads, SavedTwice, SavedTwiceGiven, LoadedSame, LoadedGiven, KeptNumbers, Reasons, AllAccounted, LengthsKept, RoomForAll, SavedWithin}
use Rattle.rules.proofs.Accepted.{loads, accepts, salvages, salvage-accepts}
use Rattle.rules.proofs.Salvaged.{saved-dim, saved-vertices, saved-cells, saved-count, saved-loads, saved-bytes, saved-short, saved-within, kept-numbers, all-accounted, pairs-length, front_length}
use Rattle.rules.proofs.SavedAgain.{headed, saved-same, nothing-listed, nothing-counted, nothing-wrong, saved-twice, saved-right}

-- ---- the file that is written
pub saved-cells-kept : SavedCells
saved-cells-kept f bytes list h = let a = (salvages f bytes list h).head in (saved-dim f a, saved-vertices f a, saved-cells f a)

pub saved-accepted : SavedLoads
saved-accepted f bytes list us h l = accepts (saved f) us (saved-loads f (salvages f bytes list h).head us l)

pub saved-again : SavedTwice
saved-again f bytes list h =
    let a = (salvages f bytes list h).head in
    let (s, d) = saved-twice f a in
    let (x, y, z) = saved-right f a in
    (s, d, x, y, z)

-- ---- a file that Load accepts
pub loaded-same : LoadedSame
loaded-same f us b h =
    let a = loads f us h in
    let (x, y, z) = nothing-wrong f us a in
    (saved-same f us a b, nothing-listed f us a, x, y, z)

pub loaded-given : LoadedGiven
unfolding salvage_given salvage_bytes salvage_list at_front saved_length
loaded-given f us bytes list b h l p =
    let a = loads f us h in
    let s = saved-same f us a b in
    let (x, y, z) = nothing-wrong f us a in
    let n = salvage-accepts f bytes list (record { head = headed f us a; room = unfold saved_length in rw s l; places = p }) in
    (n, rw (n, s, nothing-counted f us a, x, y, z), rw (n, s), rw (n, nothing-listed f us a))

-- so a file saved, salvaged once more
pub saved-again-given : SavedTwiceGiven
unfolding saved_length
saved-again-given f bytes list bytes2 list2 h l p =
    let a = (salvages f bytes list h).head in
    let us : List ℕ = replicate (6 + length (kept f) + length (kept f) * (file_dim f + 1)) 0 in
    loaded-given (saved f) us bytes2 list2 (saved-bytes f a) (saved-accepted f bytes list us h (rw length-replicate (le_refl _))) l (rw (saved-count f a) p)

-- ---- every file
pub numbers-kept : KeptNumbers
unfolding kept
numbers-kept f = kept-numbers f (file_cells f)

pub reasons : Reasons
unfolding why cell_fault first_broken has any_of
reasons f c = go (cut_off f c) (out_of (file_vertices f) (file_cell f c)) (twice (file_cell f c)) (equal_to (file_cell f c) (kept_of f c))
  where
    go : (a b c d : Bool) → any_of (eqb (cond a 6 (cond b 7 (cond c 8 (cond d 23 0))))) (0 ∷ 6 ∷ 7 ∷ 8 ∷ 23 ∷ []) ≡ true
    go true b c d = refl
    go false true c d = refl
    go false false true d = refl
    go false false false true = refl
    go false false false false = refl

pub accounted : AllAccounted
accounted f = (all-accounted f, pairs-length f)

pub lengths-kept : LengthsKept
unfolding salvage_bytes salvage_list saved_length
lengths-kept f bytes list = (
  front_length (salvage_number f bytes list) (saved f) bytes (λ h. (salvages f bytes list h).room),
  front_length (salvage_number f bytes list) (dropped_pairs f) list (λ h. omega (arith, (salvages f bytes list h).places, pairs-length f, all-accounted f)),
)

pub room-for-all : RoomForAll
unfolding salvage_number salvage_rules first_broken
room-for-all f bytes list b p = go (ltb (length f) 4) refl (eqb (file_dim f) 0) refl (ltb 8192 (file_vertices f)) refl (ltb 4096 (file_cells f)) refl
  where
    go : (s : Bool) → ltb (length f) 4 ≡ s → (d : Bool) → eqb (file_dim f) 0 ≡ d → (v : Bool) → ltb 8192 (file_vertices f) ≡ v → (c : Bool) → ltb 4096 (file_cells f) ≡ c
        → cond s 1 (cond d 2 (cond v 3 (cond c 4 (cond (ltb (length bytes) (saved_length f)) 18 (cond (ltb (length list) (2 * file_cells f)) 21 0))))) ≤ 4
    go true w d x v y c z = omega arith
    go false w true x v y c z = omega arith
    go false w false x true y c z = omega arith
    go false w false x false y true z = omega arith
    go false w false x false y false z =
        let n = eqb-false (file_dim f) 0 x in
        let h : Headed f = record { long = ltb-false _ _ w; low = omega arith; vertices = ltb-false _ _ y; cells = ltb-false _ _ z } in
        rw (le-ltb (length bytes) (saved_length f) (omega (arith, saved-short f h)), le-ltb (length list) (2 * file_cells f) (omega (arith, h.cells))) (omega arith)

pub within-what-came : SavedWithin
within-what-came = saved-within
