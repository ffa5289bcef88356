-- The bits between the last vertex and the end of the last byte are one field.
use mathlib.Core.Path.{◌≡◌, sym, ◌∙◌}
use Prim.Native.Nat.{ℕ, ◌+◌, ◌-◌, ◌*◌, ◌≤◌, ◌<◌}
use native.Mathlib.Omega.{arith}
use Rattle.rules.specs.File.{file_dim, file_cells, bits_of, length_of}
use Rattle.rules.specs.Salvage.{pad_was}
use Rattle.rules.proofs.Head.{head-dim, head-cells, head-length, head-length-below}
use Rattle.rules.proofs.Padded.{some-bit}
use Rattle.rules.proofs.Fields.{field_below}
use Rattle.salvaging.proofs.pad_set.Goals as goal

-- the length in bits is the end bit's, up to the next whole byte
near : (D n : ℕ) → (bits_of D n ≤ 8 * length_of D n) × (8 * length_of D n < bits_of D n + 8)
unfolding bits_of length_of
near D n = (omega arith, omega arith)

few : (c : goal.After-length) → (c.end_bit-end.result ≤ 8 * c.length.result) × (8 * c.length.result < c.end_bit-end.result + 8)
few c =
    let end_is : c.end_bit-end.result ≡ bits_of (file_dim c.args.file.now.bytes.now) (file_cells c.args.file.now.bytes.now) =
    let f = c.args.file.now.bytes.now in c.end_bit-end.ensures ∙ rw (c.args.file.now.head_is, head-dim f, head-cells f) in
    let length-is : c.length.result ≡ length_of (file_dim c.args.file.now.bytes.now) (file_cells c.args.file.now.bytes.now) =
    let f = c.args.file.now.bytes.now in c.length.ensures ∙ rw (c.args.file.now.head_is, head-length f) in
    let f = c.args.file.now.bytes.now in rw (end_is, length-is) (near (file_dim f) (file_cells f))

short : (c : goal.After-length) → c.length.result < 65536
short c = rw c.length.ensures (head-length-below _ (rw c.args.file.now.head_is (field_below c.args.file.now.bytes.now 0 32)))

pub overflow_mul-width : goal.overflow_mul-width
overflow_mul-width c = omega (arith, short c)

pub overflow_sub-width : goal.overflow_sub-width
overflow_sub-width c =
    (few c).0

pub overflow_cast-width : goal.overflow_cast-width
overflow_cast-width c =
    omega (arith, (few c).1)

pub read_field-requires : goal.read_field-requires
read_field-requires c =
    omega (arith, (few c).1)

pub returns : goal.returns
unfolding pad_was
returns c =
    let end_is : c.end_bit-end.result ≡ bits_of (file_dim c.args.file.now.bytes.now) (file_cells c.args.file.now.bytes.now) =
    let f = c.args.file.now.bytes.now in c.end_bit-end.ensures ∙ rw (c.args.file.now.head_is, head-dim f, head-cells f) in
    let length-is : c.length.result ≡ length_of (file_dim c.args.file.now.bytes.now) (file_cells c.args.file.now.bytes.now) =
    let f = c.args.file.now.bytes.now in c.length.ensures ∙ rw (c.args.file.now.head_is, head-length f) in
    let b = c in
    let f = b.args.file.now.bytes.now in
    rw (c.read_field.ensures, end_is, length-is) (sym (some-bit f (bits_of (file_dim f) (file_cells f)) (8 * length_of (file_dim f) (file_cells f) - bits_of (file_dim f) (file_cells f))))
