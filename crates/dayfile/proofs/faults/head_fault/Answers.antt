-- Each test is a line of the table of refusals, in its order, and each return but the last is the first line that is broken.
use native.Mathlib.Omega.{arith}
use Rattle.rules.proofs.FirstFault.{short, no-dimension, many-vertices, many-cells, spare-bits, wrong-length}
use Rattle.dayfile.specs.Faults.{first_faults, fault_of}
use Rattle.dayfile.proofs.HeadFaults.{head_at, head-none}
use Rattle.dayfile.proofs.Says.{says}
use Rattle.dayfile.proofs.faults.head_fault.Goals as goal

pub returns-then-file-lt4 : goal.returns-then-file-lt4
unfolding first_faults fault_of
returns-then-file-lt4 c = rw (head_at _ 1 (omega arith) (short c.args.file.now (omega arith)))

pub returns-then-dimension-eq0 : goal.returns-then-dimension-eq0
unfolding first_faults fault_of
returns-then-dimension-eq0 c =
    let f = c.args.file.now in
    let s = says f _ c.header-head.ensures in
    rw (head_at f 2 (omega arith) (no-dimension f (omega arith) (omega arith)))

pub returns-then-vertices-gt8192 : goal.returns-then-vertices-gt8192
unfolding first_faults fault_of
returns-then-vertices-gt8192 c =
    let f = c.args.file.now in
    let s = says f _ c.header-head.ensures in
    rw (head_at f 3 (omega arith) (many-vertices f (omega arith) (λ e. omega arith) (omega arith)))

pub returns-then-cells-gt4096 : goal.returns-then-cells-gt4096
unfolding first_faults fault_of
returns-then-cells-gt4096 c =
    let f = c.args.file.now in
    let s = says f _ c.header-head.ensures in
    rw (head_at f 4 (omega arith) (many-cells f (omega arith) (λ e. omega arith) (omega arith) (omega arith)))

pub returns-then-spare-gt0 : goal.returns-then-spare-gt0
unfolding first_faults fault_of
returns-then-spare-gt0 c =
    let f = c.args.file.now in
    let s = says f _ c.header-head.ensures in
    rw (head_at f 5 (omega arith) (spare-bits f (omega arith) (λ e. omega arith) (omega arith) (omega arith) (omega arith)))

pub returns-then-file-length : goal.returns-then-file-length
unfolding first_faults fault_of
returns-then-file-length c =
    let f = c.args.file.now in
    let s = says f _ c.header-head.ensures in
    rw (head_at f 6 (omega arith) (wrong-length f (omega arith) (λ e. omega arith) (omega arith) (omega arith) (omega arith) (λ e. omega arith)))

pub returns : goal.returns
unfolding first_faults fault_of
returns c =
    let f = c.args.file.now in
    let s = says f _ c.header-head.ensures in
    rw (head-none f (record {
      long = omega arith;
      some-dimension = λ e. omega arith;
      few-vertices = omega arith;
      few-cells = omega arith;
      no-spare = omega arith;
      right-length = omega arith;
    }))
