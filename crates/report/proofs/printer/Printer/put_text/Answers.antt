-- A text: its bytes below the index are put.
use native.Mathlib.Omega.{arith}
use Rattle.report.proofs.Texts.{put-more}
use Rattle.report.proofs.printer.Printer.put_text.Goals as goal

pub loop-b-preserved : goal.loop-b-preserved
loop-b-preserved c = put-more c.args.text.now c.loop-b.b-index (omega arith) c.loop-b.invariant c.put_byte.ensures
