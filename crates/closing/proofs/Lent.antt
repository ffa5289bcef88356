-- The code's two comparisons and its equality, on a count: together they are the test that it may be lent.
use mathlib.Core.Path.{◌≡◌}
use mathlib.Core.Bool.{true, false, false≢true, true≢false}
use lib.Dec.{eqb}
use lib.IntN.{ℤ, pos, negsuc}
use lib.Signed.{lt_z}
use borrow.Author.Tests.{ltb-true, ltb-false, le-leb, lt-leb}
use mir.Syntax.{w32}
use mir.Val.{of_z}
use Rattle.rules.specs.Phases.{masked, phased, counted}

pub under : (k : ℤ) → lt_z k (negsuc 32767) ≡ true → false ≡ counted k
unfolding counted phased masked
under (pos a) h = absurd (false≢true h)
under (negsuc a) h = rw (lt-leb a 32767 (ltb-true 32767 a h))

pub among : (k : ℤ) → lt_z k (negsuc 32767) ≡ false → lt_z k (pos 32768) ≡ true → true ≡ counted k
unfolding counted phased masked
among (pos a) h g = rw g
among (negsuc a) h g = rw (le-leb a 32767 (ltb-false 32767 a h))

pub over : (k : ℤ) → lt_z k (pos 32768) ≡ false → eqb (of_z w32 k) 65536 ≡ counted k
unfolding counted phased masked
over (pos a) g = rw g
over (negsuc a) g = absurd (true≢false g)
