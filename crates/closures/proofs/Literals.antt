-- The floats that the code writes out, as counts of 65,536ths.
use mathlib.Core.Path.{◌≡◌, refl}
use lib.IntN.{pos, negsuc}
use lib.Ieee.{binary64, round, neg, of_bits}
use Rattle.rules.specs.Phases.{turns}

-- 0.0, 0.5, 1.0, −0.5 and −1.0
pub none : turns (pos 0) ≡ of_bits binary64 0
unfolding turns round of_bits
none = refl

pub half : turns (pos 32768) ≡ of_bits binary64 0x3fe0_0000_0000_0000
unfolding turns round of_bits
half = refl

pub one : turns (pos 65536) ≡ of_bits binary64 0x3ff0_0000_0000_0000
unfolding turns round of_bits
one = refl

pub half_back : turns (negsuc 32767) ≡ neg (of_bits binary64 0x3fe0_0000_0000_0000)
unfolding turns round of_bits neg
half_back = refl

pub one-back : turns (negsuc 65535) ≡ of_bits binary64 0xbff0_0000_0000_0000
unfolding turns round of_bits
one-back = refl
