-- A cell has a number that is not 0 exactly where it is dropped.
use mathlib.Core.Path.{◌≡◌, refl}
use mathlib.Core.Bool.{false, true≢false}
use native.Mathlib.Omega.{arith}
use Rattle.salvaging.specs.declared.reasons.Reason.{Reason}
use Rattle.salvaging.specs.declared.reasons.Reason.TheVariants.{CutOff, VertexOut, VertexTwice, CellTwice}
use Rattle.std.specs.Prelude.{Option, Some, None}
use Rattle.std.specs.Option.{is_some}
use Rattle.salvaging.specs.Reasons.{reason_number, why_number}

pub reason-some : (r : Reason) → reason_number r ≡ 0 → ⊥
reason-some CutOff e = absurd (omega (arith, e))
reason-some VertexOut e = absurd (omega (arith, e))
reason-some VertexTwice e = absurd (omega (arith, e))
reason-some CellTwice e = absurd (omega (arith, e))

pub none-number : (o : Option Reason) → is_some o ≡ false → why_number o ≡ 0
none-number None e = refl
none-number (Some r) e = absurd (true≢false e)
