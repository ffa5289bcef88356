-- The counts of the dimensions below d are put; d goes up to D.
use Prim.Native.Nat.{ℕ, ◌*◌}
use mathlib.Core.List.{map}
use Rattle.rules.specs.Lists.{up_to}
use Rattle.rules.specs.Book.{count}
use Rattle.report.specs.Lines.{digits, spaced}
use Rattle.report.specs.Printed.{Puts}
use Rattle.report.proofs.put_counts.Given as goal

abbrev pub invariant-loop-d : goal.invariant-loop-d
invariant-loop-d l = Puts (11 * l.d) l.initial.printer (spaced (map (λ (e : ℕ). digits (count l.book e)) (up_to l.d))) l.printer
