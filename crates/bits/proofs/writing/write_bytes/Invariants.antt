-- The invariant: all but the last `left` bits stand, and the rest begins with byte `at`.
use mathlib.Core.Path.{◌≡◌}
use Prim.Native.Nat.{◌+◌, ◌-◌, ◌*◌, ◌≤◌, ◌<◌}
use Rattle.bits.proofs.Patching.{Begun}
use Rattle.bits.proofs.writing.write_bytes.Given as goal

abbrev pub invariant-loop-left : goal.invariant-loop-left
invariant-loop-left l = (0 < l.left) × ((l.left ≤ l.width) × ((8 * l.at ≡ 8 * l.start + (l.width - l.left)) × Begun l.initial.bytes (8 * l.start) l.width l.value l.left l.bytes))

abbrev pub decreases-loop-left : goal.decreases-loop-left
decreases-loop-left l = l.left
