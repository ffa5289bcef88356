-- The lines of the relations held with keys below k are put.
use Prim.Native.Nat.{◌*◌}
use mathlib.Core.List.{map}
use Rattle.rules.specs.Lists.{up_to, keep, joined}
use Rattle.rules.specs.Book.{held}
use Rattle.report.specs.Lines.{relation_line}
use Rattle.report.specs.Printed.{Puts}
use Rattle.report.proofs.put_relations.Given as goal

abbrev pub invariant-loop-k : goal.invariant-loop-k
invariant-loop-k l = Puts (44 * l.k) l.initial.printer (joined (map (relation_line l.book) (keep (held l.book) (up_to l.k)))) l.printer
