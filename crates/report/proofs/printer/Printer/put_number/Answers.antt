-- The digits are those that std prints, ten at most.
use mathlib.Core.Path.{◌≡◌, ap, ◌∙◌}
use native.Mathlib.Omega.{arith}
use lib.ListN.{length}
use Rattle.std.proofs.lemmas.Fmt.{length-decimal-le}
use Rattle.report.specs.Lines.{digits}
use Rattle.report.proofs.Putting.{puts-wide}
use Rattle.report.proofs.Decimal.{decimal-digits}
use Rattle.report.proofs.printer.Printer.put_number.Goals as goal

pub returns : goal.returns
returns c =
    let n = c.args.n in
    let e : c.as_bytes.result.now ≡ digits n = c.as_bytes.ensures.value ∙ c.format.ensures.text ∙ decimal-digits n (omega arith) in
    let few = length-decimal-le 10 n (omega arith) (omega arith) (omega arith) in
    rw e at (puts-wide 10 (omega (arith, few, ap length (c.as_bytes.ensures.value ∙ c.format.ensures.text))) c.put_text.ensures)
