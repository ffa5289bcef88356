-- `closures::wrapped` meets its contract: each branch returns what `cond` picks where the tests are as it found them.
use mathlib.Core.Path.{◌≡◌, sym, ap}
use mathlib.Core.Bool.{Bool, true, false, cond}
use lib.Ieee.{Float, binary64, lt, of_bits}
use Rattle.closures.specs.Steps.{wrapped_turns}
use Rattle.closures.proofs.Literals.{half, one, half_back}
use Rattle.closures.proofs.wrapped.Goals as goal

-- what a test picks, once it is told
taken : (t : Bool) (x y : Float) → t ≡ true → x ≡ cond t x y
taken t x y e = sym (ap (λ (b : Bool). cond b x y) e)

left : (t : Bool) (x y : Float) → t ≡ false → y ≡ cond t x y
left t x y e = sym (ap (λ (b : Bool). cond b x y) e)

pub returns-then-turns : goal.returns-then-turns
unfolding wrapped_turns
returns-then-turns c = rw (half_back, one) (taken _ _ _ c.if-turns.true)

pub returns-then-turns-2 : goal.returns-then-turns-2
unfolding wrapped_turns
returns-then-turns-2 c = rw (half_back, half, c.if-turns.false) (taken (lt c.args.turns (of_bits binary64 0x3fe0_0000_0000_0000)) _ _ c.if-turns-2.true)

pub returns : goal.returns
unfolding wrapped_turns
returns c = rw (half_back, half, one, c.if-turns.false) (left (lt c.args.turns (of_bits binary64 0x3fe0_0000_0000_0000)) _ _ c.if-turns-2.false)
