-- The words for the reason that a number says are the words for the number.
use mathlib.Core.Path.{◌≡◌, refl}
use mathlib.Core.Bool.{Bool, true, false, cond}
use Prim.Native.Nat.{ℕ}
use lib.Dec.{eqb}
use Rattle.salvaging.specs.declared.reasons.Reason.TheVariants.{CutOff, VertexOut, VertexTwice, CellTwice}
use Rattle.salvaging.specs.Reasons.{reason_number, reason_of}
use Rattle.telling.specs.Words.{reason, bytes_of}

pub reason-back : (n : ℕ) → reason (reason_number (reason_of n)) ≡ reason n
unfolding reason
reason-back n = go (eqb n 6) (eqb n 7) (eqb n 8)
  where
    go : (a b c : Bool) → reason (reason_number (cond a CutOff (cond b VertexOut (cond c VertexTwice CellTwice))))
        ≡ cond a (bytes_of "not whole in the file") (cond b (bytes_of "a vertex out of range") (cond c (bytes_of "a vertex twice") (bytes_of "equal to an earlier cell")))
    go true b c = refl
    go false true c = refl
    go false false true = refl
    go false false false = refl
