-- Document 02, "Phase closures": steps and closures over whole counts, which are 65,536ths of a turn, and the floats that stand for them.
use Rattle.std.specs.Prelude.{Bool, true, false, cond, ◌&&◌, ◌||◌, suc, eqb, ℤ, pos, negsuc, ◌+ℤ◌, ◌-ℤ◌, Float}
use Rattle.std.specs.Int.Signed.{lt_z, le_z, quot_z}
use Rattle.std.specs.Float.{binary64}
use Rattle.std.specs.Float.Ieee.{round}

-- ==== over whole counts
-- the count of a masked point: 65,536
unfoldable pub masked : ℤ → Bool
masked (pos n) = eqb n 65536
masked (negsuc n) = false

-- a count of a phase: −32,768 to 32,767
unfoldable pub phased : ℤ → Bool
phased k = le_z (negsuc 32767) k && lt_z k (pos 32768)

-- a count that may be lent: one of a phase, or that of a masked point
unfoldable pub counted : ℤ → Bool
counted k = phased k || masked k

-- a difference of two counts brought by a whole turn, if need be, to at least −1/2 and below 1/2
unfoldable pub wrapped : ℤ → ℤ
wrapped k = cond (lt_z k (negsuc 32767)) (k +ℤ pos 65536) (cond (lt_z k (pos 32768)) k (k -ℤ pos 65536))

-- the step from the lower vertex's count to the higher's
unfoldable pub step_count : ℤ → ℤ → ℤ
step_count lower higher = wrapped (higher -ℤ lower)

-- the closure of a face's counts a, b and c, in 65,536ths: step(a,b) + step(b,c) − step(a,c)
unfoldable pub closure_count : ℤ → ℤ → ℤ → ℤ
closure_count a b c = step_count a b +ℤ step_count b c -ℤ step_count a c

-- the closure as it is written: in whole turns, or 2 where an end is masked
unfoldable pub closure_of : ℤ → ℤ → ℤ → ℤ
closure_of a b c = cond (masked a || (masked b || masked c)) (pos 2) (quot_z (closure_count a b c) (pos 65536))

-- ==== as 64-bit floats
-- the float of k 65,536ths of a turn: the nearest, which is exact; that of 0 is +0.0
unfoldable pub turns : ℤ → Float
turns (pos n) = round binary64 false n 65536
turns (negsuc n) = round binary64 true (suc n) 65536
