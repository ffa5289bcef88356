-- What is wrong with the cell's vertices by themselves goes first; then it is put down and looked for among those kept.
use mathlib.Core.Path.{◌≡◌, refl, sym, ◌∙◌}
use Prim.Native.Nat.{◌+◌, ◌-◌}
use native.Mathlib.Omega.{arith}
use lib.ListN.{length, replicate}
use lib.Seq.{take_at}
use borrow.Author.Tests.{ne_eqb}
use Rattle.rules.specs.Lists.{any_of, same, sorted}
use Rattle.rules.specs.File.{file_dim, file_vertices, file_cell}
use Rattle.rules.specs.Salvage.{equal_to, kept_of, why}
use Rattle.rules.proofs.Head.{head-dim, head-vertices}
use Rattle.rules.proofs.Fields.{dim-below}
use Rattle.rules.proofs.LoadedWords.{row-size}
use Rattle.repeats.specs.Rows.{row_at, rows_in}
use Rattle.salvaging.specs.Reasons.{reason_number, why_number}
use Rattle.salvaging.proofs.Whys.{reason-some}
use Rattle.salvaging.specs.Looked.{row_fault, four_of}
use Rattle.salvaging.proofs.Looking.{fault-sorted, why-own, why-rest, looked-same, chains-put, equal-found, looked-left, looked-more}
use Rattle.salvaging.proofs.cells.Seen.look.Goals as goal
use Rattle.salvaging.proofs.cells.Seen.look.Goals.{After-row_fault, After-put_cell}

pub row_fault-requires : goal.row_fault-requires
row_fault-requires c = let f = c.args.file.now.bytes.now in rw (c.args.file.now.head_is, head-dim f) (c.args.file.now.low, dim-below f)

-- what is wrong with the cell's vertices by themselves
fault-is : (c : After-row_fault) → why_number c.row_fault.result ≡ row_fault (file_vertices c.args.file.now.bytes.now) (file_cell c.args.file.now.bytes.now c.args.c)
unfolding four_of
fault-is c =
    let f = c.args.file.now.bytes.now in
    let n = c.args.c in
    c.row_fault.ensures
    ∙ rw (c.args.file.now.head_is, head-dim f, head-vertices f, c.requires.row, take_at (sorted (file_cell f n)) (replicate (3 - file_dim f) 0) (file_dim f + 1) (row-size f n)) (fault-sorted (file_vertices f) (file_cell f n))

-- its row, and whether it is among those kept
own_row : (c : After-put_cell) → row_at 4 c.put_cell.new.words c.args.self.now.count ≡ four_of (file_dim c.args.file.now.bytes.now) (file_cell c.args.file.now.bytes.now c.args.c)
own_row c = c.put_cell.ensures.row ∙ c.requires.row

long : (c : After-put_cell) → length c.put_cell.new.words ≡ 16384
long c = c.put_cell.ensures.long

found : (c : After-put_cell) → any_of (same (row_at 4 c.put_cell.new.words c.args.self.now.count)) (rows_in 4 c.put_cell.new.words c.args.self.now.count) ≡ equal_to (file_cell c.args.file.now.bytes.now c.args.c) (kept_of c.args.file.now.bytes.now c.args.c)
found c = equal-found c.requires.seen c.put_cell.new.words (long c) c.put_cell.ensures.before (own_row c)

pub returns-in-Some : goal.returns-in-Some
returns-in-Some c =
    let f = c.args.file.now.bytes.now in
    let n = c.args.c in
    let e : reason_number c.in-Some.fault ≡ row_fault (file_vertices f) (file_cell f n) = rw c.in-Some.is at (fault-is (goal.at.returns-in-Some c).After-row_fault) in
    let q : row_fault (file_vertices f) (file_cell f n) ≡ 0 → ⊥ = λ z. reason-some c.in-Some.fault (e ∙ z) in
    let w = why-own f n c.requires.whole.1 q in record {
      why = e ∙ sym w;
      count = rw (ne_eqb (reason_number c.in-Some.fault) 0 (reason-some c.in-Some.fault));
      seen = looked-same c.requires.seen (λ z. q (sym w ∙ z));
    }

pub meet-requires : goal.meet-requires
meet-requires c =
    let p = (goal.at.meet-requires c).After-put_cell in
    let l = c.requires.seen.few in
    let e = long p in
    record { row = omega arith; room = omega arith; chains = chains-put c.requires.seen c.put_cell.new.words e c.put_cell.ensures.before (own_row p) }

pub returns-then-meet : goal.returns-then-meet
returns-then-meet c =
    let f = c.args.file.now.bytes.now in
    let n = c.args.c in
    let p = (goal.at.returns-then-meet c).After-put_cell in
    let own = why-rest f n c.requires.whole.1 (sym (fault-is (goal.at.returns-then-meet c).After-row_fault) ∙ rw c.in_default.is refl) in
    let e : why f n ≡ 23 = own ∙ rw (sym (found p) ∙ sym c.meet.ensures.value ∙ c.if-meet.true) in record {
      why = sym e;
      count = refl;
      seen = looked-left c.requires.seen c.put_cell.new.words (long p) c.put_cell.ensures.before (own_row p) _ _ (λ z. omega (arith, e)) (c.meet.ensures.chains c.if-meet.true);
    }

pub returns : goal.returns
returns c =
    let f = c.args.file.now.bytes.now in
    let n = c.args.c in
    let p = (goal.at.returns c).After-put_cell in
    let own = why-rest f n c.requires.whole.1 (sym (fault-is (goal.at.returns c).After-row_fault) ∙ rw c.in_default.is refl) in
    let e : why f n ≡ 0 = own ∙ rw (sym (found p) ∙ sym c.meet.ensures.value ∙ c.if-meet.false) in record {
      why = sym e;
      count = refl;
      seen = looked-more c.requires.seen c.put_cell.new.words (long p) c.put_cell.ensures.before (own_row p) _ _ e (c.meet.ensures.added c.if-meet.false);
    }
