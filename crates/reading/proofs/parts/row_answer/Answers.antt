-- Each test decides Row's number, or leaves the rules behind it; with 11 the broken offset is told.
use mathlib.Core.Path.{◌≡◌, refl, ap, ◌∙◌}
use mathlib.Core.Bool.{true}
use Prim.Native.Nat.{ℕ, ◌≤◌, ◌<◌}
use native.Mathlib.Omega.{arith}
use Rattle.rules.specs.Book.{dim, count, key, held, frame_right}
use Rattle.rules.proofs.AnyWords.{dim-most}
use Rattle.rules.proofs.Told.{told-eleven, untold-as}
use Rattle.book.proofs.Flags.{off, on}
use Rattle.reading.proofs.RowCases.{offsets_right, row-10, row-12-first, row-12-second, row-16, row-17, row-11, row-0, row_told}
use Rattle.reading.proofs.parts.row_answer.Goals.{After-dim-top, Else-e-top, After-held, After-count, After-offsets_right}
use Rattle.reading.proofs.parts.row_answer.Goals as goal

framed : (c : After-dim-top) → frame_right c.args.book.now ≡ true
framed c = on c.frame_right.ensures c.if-not-frame_right.false

first : (c : Else-e-top) → c.args.d ≤ dim c.args.book.now
first c = omega (arith, c.dim-top.ensures, c.if-d-top.false)

second : (c : Else-e-top) → c.args.e ≤ dim c.args.book.now
second c = omega (arith, c.dim-top.ensures, c.if-e-top.false)

holds : (c : After-held) → c.held.result ≡ held c.args.book.now (key c.args.d c.args.e)
holds c = c.held.ensures ∙ ap (held c.args.book.now) c.key-k.ensures

there : (c : After-count) → held c.args.book.now (key c.args.d c.args.e) ≡ true
there c = on (c.held.ensures ∙ ap (held c.args.book.now) c.key-k.ensures) c.if-not-held.false

below : (c : After-offsets_right) → c.args.i < count c.args.book.now c.args.d
below c = omega (arith, c.count.ensures, c.if-i-count.false)

offsets : (c : After-offsets_right) → c.offsets_right.result ≡ offsets_right c.args.book.now (key c.args.d c.args.e) c.args.i
unfolding offsets_right
offsets c = c.offsets_right.ensures ∙ ap (λ (k : ℕ). offsets_right c.args.book.now k c.args.i) c.key-k.ensures

pub returns-then-not-frame_right : goal.returns-then-not-frame_right
returns-then-not-frame_right c =
    let r = row-10 c.args.book.now c.args.d c.args.e c.args.i (off c.frame_right.ensures c.if-not-frame_right.true) in
    record { number = r; place = untold-as 10 _ _ refl r }

pub returns-then-d-top : goal.returns-then-d-top
returns-then-d-top c =
    let p = (goal.at.returns-then-d-top c).After-dim-top in
    let r = row-12-first c.args.book.now c.args.d c.args.e c.args.i (framed p) (omega (arith, c.dim-top.ensures, c.if-d-top.true)) in
    record { number = r; place = untold-as 12 _ _ refl r }

pub returns-then-e-top : goal.returns-then-e-top
returns-then-e-top c =
    let p = (goal.at.returns-then-e-top c).After-dim-top in
    let r = row-12-second c.args.book.now c.args.d c.args.e c.args.i (framed p) (omega (arith, c.dim-top.ensures, c.if-d-top.false)) (omega (arith, c.dim-top.ensures, c.if-e-top.true)) in
    record { number = r; place = untold-as 12 _ _ refl r }

pub key-k-requires : goal.key-k-requires
key-k-requires c =
    let p = (goal.at.key-k-requires c).Else-e-top in
    let m = dim-most c.args.book.now (λ i. (c.type_inv.book i).fits) in
    (omega (arith, m, first p), omega (arith, m, second p))

pub returns-then-not-held : goal.returns-then-not-held
returns-then-not-held c =
    let at = goal.at.returns-then-not-held c in
    let r = row-16 c.args.book.now c.args.d c.args.e c.args.i (framed at.After-dim-top) (first at.Else-e-top) (second at.Else-e-top) (off (holds at.After-held) c.if-not-held.true) in
    record { number = r; place = untold-as 16 _ _ refl r }

pub returns-then-i-count : goal.returns-then-i-count
returns-then-i-count c =
    let at = goal.at.returns-then-i-count c in
    let r = row-17 c.args.book.now c.args.d c.args.e c.args.i (framed at.After-dim-top) (first at.Else-e-top) (second at.Else-e-top) (there at.After-count) (omega (arith, c.count.ensures, c.if-i-count.true)) in
    record { number = r; place = untold-as 17 _ _ refl r }

pub returns-then-not-offsets_right : goal.returns-then-not-offsets_right
returns-then-not-offsets_right c =
    let at = goal.at.returns-then-not-offsets_right c in
    let a = c.args in
    let r = row-11 a.book.now a.d a.e a.i (framed at.After-dim-top) (first at.Else-e-top) (second at.Else-e-top) (there at.After-count) (below at.After-offsets_right) (off (offsets at.After-offsets_right) c.if-not-offsets_right.true) in
    record { number = r; place = row_told a.book.now a.d a.e a.i _ _ c.key-k.ensures c.broken_offset.ensures ∙ told-eleven _ _ r }

pub returns : goal.returns
returns c =
    let at = goal.at.returns c in
    let a = c.args in
    let r = row-0 a.book.now a.d a.e a.i (framed at.After-dim-top) (first at.Else-e-top) (second at.Else-e-top) (there at.After-count) (below at.After-offsets_right) (on (offsets at.After-offsets_right) c.if-not-offsets_right.false) in
    record { number = r; place = untold-as 0 _ _ refl r }
