-- Each refusal in its order, then the relation taken out.
use mathlib.Core.Path.{◌≡◌, sym, ap, ◌∙◌}
use mathlib.Core.Bool.{true}
use mathlib.Core.Option.{none}
use Prim.Native.Nat.{ℕ, ◌≤◌}
use native.Mathlib.Omega.{arith}
use Rattle.rules.specs.Book.{dim, key, held, Right}
use Rattle.rules.specs.Broken.{broken_at, told}
use Rattle.rules.specs.Calls.{drop_number, drop_rules, drop_words}
use Rattle.rules.proofs.FrameRule.{framed}
use Rattle.rules.proofs.Told.{right-none, untold-none}
use Rattle.book.proofs.Flags.{off, on}
use Rattle.right.proofs.Checks.{refuses}
use Rattle.daybook.proofs.MakeCases.{drop-first, drop-second, drop-none, drop_cells, drop-whole}
use Rattle.daybook.proofs.drops.drop_relation.Goals.{In_ok-check, Else-e-top, After-key, Else-k-key}
use Rattle.daybook.proofs.drops.drop_relation.Goals as goal

-- equal keys are of the same dimensions
same_first : (d e D i j : ℕ) → e ≤ 3 → i ≡ key d e → j ≡ key D 0 → i ≡ j → d ≡ D
unfolding key
same_first d e D i j l p q s = omega arith

same_second : (d e D i j : ℕ) → e ≤ 3 → i ≡ key d e → j ≡ key D 0 → i ≡ j → e ≡ 0
unfolding key
same_second d e D i j l p q s = omega arith

apart : (d e D i j : ℕ) → i ≡ key d e → j ≡ key D 0 → (i ≡ j → ⊥) → d ≡ D → e ≡ 0 → ⊥
apart d e D i j p q n a b = n (rw (p, q, a, b))

right : (c : In_ok-check) → Right c.args.book.now
right c = rw c.in_ok-check.ensures.words at c.in_ok-check.ensures.right

-- a right book has no place to tell
untold : (c : In_ok-check) → none ≡ told (drop_number c.args.book.now c.args.d c.args.e) (broken_at c.args.book.now)
untold c = let r = right c in untold-none _ _ (right-none c.args.book.now r.frame r.rows)

first : (c : Else-e-top) → c.args.d ≤ dim c.args.book.now
first c = omega (arith, c.dim-top.ensures.dim, ap dim c.in_ok-check.ensures.words, c.if-d-top.false)

second : (c : Else-e-top) → c.args.e ≤ dim c.args.book.now
second c = omega (arith, c.dim-top.ensures.dim, ap dim c.in_ok-check.ensures.words, c.if-e-top.false)

there : (c : After-key) → held c.args.book.now (key c.args.d c.args.e) ≡ true
there c = ap (held _) (sym c.key-k.ensures) ∙ on c.held.ensures c.if-not-held.false

of-cells : (c : After-key) → c.key.result ≡ key (dim c.args.book.now) 0
of-cells c = c.key.ensures ∙ ap (λ (D : ℕ). key D 0) (c.dim-top.ensures.dim ∙ ap dim c.in_ok-check.ensures.words)

inner : (c : Else-k-key) → c.args.d ≡ dim c.args.book.now → c.args.e ≡ 0 → ⊥
inner c = apart _ _ _ _ _ c.key-k.ensures (c.key.ensures ∙ ap (λ (D : ℕ). key D 0) (c.dim-top.ensures.dim ∙ ap dim c.in_ok-check.ensures.words)) c.if-k-key.false

pub returns-in_err-check : goal.returns-in_err-check
unfolding drop_number drop_rules drop_words
returns-in_err-check c =
    let r = refuses c.args.book.now _ _ _ c.from_residual.ensures.1 c.in_err-check.ensures.number c.in_err-check.ensures.place in
    record { number = r.number; place = r.place; words = rw r.some }

pub returns-then-d-top : goal.returns-then-d-top
returns-then-d-top c =
    let p = (goal.at.returns-then-d-top c).In_ok-check in
    let r = right p in
    let g = drop-first c.args.book.now c.args.d c.args.e r.frame r.rows (omega (arith, c.dim-top.ensures.dim, ap dim c.in_ok-check.ensures.words, c.if-d-top.true)) in
    record { number = g.number_is; place = untold p; words = g.words_are }

pub returns-then-e-top : goal.returns-then-e-top
returns-then-e-top c =
    let p = (goal.at.returns-then-e-top c).In_ok-check in
    let r = right p in
    let g = drop-second c.args.book.now c.args.d c.args.e r.frame r.rows (omega (arith, c.dim-top.ensures.dim, ap dim c.in_ok-check.ensures.words, c.if-e-top.true)) in
    record { number = g.number_is; place = untold p; words = g.words_are }

pub key-k-requires : goal.key-k-requires
key-k-requires c =
    let at = goal.at.key-k-requires c in
    let h = (framed _ (right at.In_ok-check).frame).high in
    (omega (arith, h, first at.Else-e-top), omega (arith, h, second at.Else-e-top))

pub returns-then-not-held : goal.returns-then-not-held
returns-then-not-held c =
    let at = goal.at.returns-then-not-held c in
    let r = right at.In_ok-check in
    let g = drop-none c.args.book.now c.args.d c.args.e r.frame r.rows (first at.Else-e-top) (second at.Else-e-top) (ap (held _) (sym c.key-k.ensures) ∙ off c.held.ensures c.if-not-held.true) in
    record { number = g.number_is; place = untold at.In_ok-check; words = g.words_are }

pub key-requires : goal.key-requires
key-requires c =
    let h = (framed _ (right (goal.at.key-requires c).In_ok-check).frame).high in
    (omega (arith, h, c.dim-top.ensures.dim, ap dim c.in_ok-check.ensures.words), omega arith)

pub returns-then-k-key : goal.returns-then-k-key
returns-then-k-key c =
    let at = goal.at.returns-then-k-key c in
    let r = right at.In_ok-check in
    let l : c.args.e ≤ 3 = omega (arith, second at.Else-e-top, (framed _ r.frame).high) in
    let j = of-cells at.After-key in
    let g = drop_cells c.args.book.now c.args.d c.args.e r.frame r.rows (first at.Else-e-top) (second at.Else-e-top) (there at.After-key)
    (same_first _ _ _ _ _ l c.key-k.ensures j c.if-k-key.true)
    (same_second _ _ _ _ _ l c.key-k.ensures j c.if-k-key.true) in
    record { number = g.number_is; place = untold at.In_ok-check; words = g.words_are }

pub returns : goal.returns
returns c =
    let at = goal.at.returns c in
    let r = right at.In_ok-check in
    let g = drop-whole c.args.book.now c.args.d c.args.e r.frame r.rows (first at.Else-e-top) (second at.Else-e-top) (there at.After-key) (inner at.Else-k-key) _ c.take_out.ensures in
    record { number = g.number_is; place = untold at.In_ok-check; words = g.words_are }
