-- A text: its bytes below the index are put.
use lib.ListN.{take}
use Rattle.report.specs.Printed.{Puts}
use Rattle.report.proofs.printer.Printer.put_text.Given as goal

abbrev pub invariant-loop-b : goal.invariant-loop-b
invariant-loop-b l = Puts l.b-index l.initial.self (take l.b-index l.text) l.self
