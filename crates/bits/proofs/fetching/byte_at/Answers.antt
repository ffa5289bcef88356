-- A place past the end has no byte, and so 0; any other is fetched once.
use mathlib.Core.Path.{refl, sym}
use native.Mathlib.Omega.{arith}
use lib.ListN.{get_or-eq_default}
use Rattle.bits.specs.Fetches.{there}
use Rattle.bits.proofs.fetching.byte_at.Goals as goal

pub returns-then-at-bytes : goal.returns-then-at-bytes
unfolding there
returns-then-at-bytes c = record { value = sym (get_or-eq_default c.args.bytes.now 0 (omega arith)); fetches = omega arith }

pub returns : goal.returns
unfolding there
returns c = record { value = refl; fetches = omega arith }
