-- A fault of 1 to 4 is a refusal; behind them the file is salvaged.
use mathlib.Core.Path.{◌≡◌, refl, sym, ap, ◌∙◌}
use Rattle.std.specs.Prelude.{Err}
use Prim.Native.Nat.{◌<◌}
use native.Mathlib.Omega.{arith}
use Rattle.kinds.specs.Refusals.{refusal_number, answer_number}
use Rattle.kinds.proofs.Determined.{positive, refused-accepted}
use Rattle.dayfile.specs.Faults.{head_number}
use Rattle.dayfile.proofs.HeadFaults.{head-back}
use Rattle.salvaging.proofs.Answered.{refused, head-own, head-refused, headed}
use Rattle.salvaging.proofs.salvage.Goals.{After-head_fault, in-Err+else-number-le4, in_default}
use Rattle.salvaging.proofs.salvage.Goals as goal

-- the fault of the head has the head's number
numbered : (c : After-head_fault) → answer_number c.head_fault.result ≡ head_number c.args.file.now
numbered c = ap answer_number c.head_fault.ensures ∙ head-back c.args.file.now

pub returns-then-number-le4 : goal.returns-then-number-le4
returns-then-number-le4 c =
    let f = c.args.file.now in
    let r = c.in-Err.refusal in
    let h = sym (ap answer_number c.in-Err.is) ∙ numbered (goal.at.returns-then-number-le4 c).After-head_fault in
    let l = positive r in
    let m : refusal_number r < 5 = omega (arith, c.if-number-le4.true, c.number.ensures) in
    let all = refused f c.args.out.now c.args.dropped.now (Err r) (refusal_number r) refl refl (refused-accepted r) (head-refused f c.args.out.now c.args.dropped.now (refusal_number r) l m (head-own f (refusal_number r) l (sym h))) in
    record { number = all.0; given = all.1.0; bytes = all.1.1.0; list = all.1.1.1 }

pub save-requires : goal.save-requires
save-requires c =
    let n = numbered (goal.at.save-requires c).After-head_fault in
    headed c.args.file.now (λ k l h e.
    elim c.match-head_fault.branch [
      | in-Err+else-number-le4 w ↦ omega (arith, w.if-number-le4.false, w.number.ensures, sym (ap answer_number w.in-Err.is) ∙ n)
      | in_default w ↦ omega (arith, sym (ap answer_number w.in_default.is) ∙ n)
    ])
