-- The cells are kept, then 18 and 21 are asked, and only then is something written.
use mathlib.Core.Path.{◌≡◌, refl, sym, ap, ◌∙◌}
use mathlib.Core.Bool.{true}
use mathlib.Core.List.{◌++◌, map}
use Prim.Native.Nat.{ℕ, ◌+◌, ◌-◌, ◌*◌, ◌≤◌, ◌<◌}
use native.Mathlib.Nat.{mul-le-mul}
use native.Mathlib.Omega.{arith}
use lib.Dec.{ltb}
use lib.ListN.{length, get_or, take, drop}
use lib.Seq.{length-take-le, get_or-take}
use borrow.Author.Rules.{rules}
use borrow.Author.Tests.{lt-ltb, ltb-false, le-ltb}
use Rattle.rules.specs.Lists.{joined}
use Rattle.rules.specs.File.{field, file_dim, file_cells, file_spare, length_of, head_dim, head_cells, head_spare, head_length}
use Rattle.rules.specs.Salvage.{why, kept, dropped_pairs, dropped_count, saved_head, saved, saved_length, spare_was, length_was}
use Rattle.rules.proofs.Head.{head-dim, head-vertices, head-cells, head-spare, head-length}
use Rattle.rules.proofs.Fields.{dim-below}
use Rattle.rules.proofs.Salvaged.{kept-few, saved-put, all-accounted}
use Rattle.std.specs.List.{take-map}
use Rattle.std.specs.Prelude.{Err}
use Rattle.kinds.specs.declared.refusals.Refusal.TheVariants.{BufferTooShort, ListLength}
use Rattle.salvaging.specs.Answers.{saved_given}
use Rattle.salvaging.specs.Reasons.{why_number}
use Rattle.salvaging.specs.Listed.{pairs_in}
use Rattle.salvaging.proofs.Pairs.{pairs-file}
use Rattle.salvaging.proofs.Answered.{past_head, refused, accepted, saved-head-length}
use Rattle.salvaging.proofs.save.Goals as goal

-- what was wrong besides
spare-is : (c : goal.After-length) → c.spare.result ≡ file_spare c.args.file.now
spare-is c =
    let head-is : c.header-head.result.0 ≡ field c.args.file.now 0 32 =
    c.header-head.ensures in
    c.spare.ensures ∙ ap head_spare (head-is) ∙ head-spare c.args.file.now

asked_is : (c : goal.After-length) → c.length.result ≡ length_of (file_dim c.args.file.now) (file_cells c.args.file.now)
asked_is c =
    let head-is : c.header-head.result.0 ≡ field c.args.file.now 0 32 =
    c.header-head.ensures in
    c.length.ensures ∙ ap head_length (head-is) ∙ head-length c.args.file.now

-- ---- there is not
pub returns-then-buffer_short : goal.returns-then-buffer_short
unfolding saved_head
returns-then-buffer_short c =
    let head-is : c.header-head.result.0 ≡ field c.args.file.now 0 32 =
    c.header-head.ensures in
    let saved-is : c.corrected-new_head.result.0 ≡ saved_head c.args.file.now =
    let f = c.args.file.now in
    c.corrected-new_head.ensures ∙ rw (head-is, head-dim f, head-vertices f, c.keep_cells-k.ensures.number) in
    let length-is : c.length-length.result ≡ saved_length c.args.file.now =
    c.length-length.ensures ∙ ap head_length (saved-is) ∙ saved-head-length c.args.file.now c.requires in
    let s = c in
    let a = s.args in
    let e : ltb (length a.out.now) (saved_length a.file.now) ≡ true = ap (ltb (length a.out.now)) (sym (length-is)) ∙ lt-ltb _ _ c.if-buffer_short.true in let all = refused a.file.now a.out.now a.dropped.now (Err BufferTooShort) 18 refl refl (λ z. omega arith) (past_head a.file.now a.out.now a.dropped.now s.requires ∙ rw e) in record { number = all.0; given = all.1.0; bytes = all.1.1.0; list = all.1.1.1 }

-- the bytes written, and the list
written_is : (c : goal.After-length) → c.write.new.bytes ≡ saved c.args.file.now ++ drop (saved_length c.args.file.now) c.args.out.now
unfolding saved_head
written_is c =
    let head-is : c.header-head.result.0 ≡ field c.args.file.now 0 32 =
    c.header-head.ensures in
    let saved-is : c.corrected-new_head.result.0 ≡ saved_head c.args.file.now =
    let f = c.args.file.now in
    c.corrected-new_head.ensures ∙ rw (head-is, head-dim f, head-vertices f, c.keep_cells-k.ensures.number) in
    let length-is : c.length-length.result ≡ saved_length c.args.file.now =
    c.length-length.ensures ∙ ap head_length (saved-is) ∙ saved-head-length c.args.file.now c.requires in
    let room : saved_length c.args.file.now ≤ length c.args.out.now =
    omega (arith, length-is) in
    let corners-are : c.corners-n.result ≡ file_dim c.args.file.now + 1 =
    c.corners-n.ensures.corners ∙ ap (λ (h : ℕ). head_dim h + 1) (head-is) ∙ ap (λ (d : ℕ). d + 1) (head-dim c.args.file.now) in
    let s = c in
    let f = s.args.file.now in
    let k = c.keep_cells-k in
    let front : take (c.corners-n.result * k.result) k.new.vertices ≡ joined (kept f) = rw (corners-are) k.ensures.vertices in
    c.write.ensures.1 ∙ rw (saved-is, front) (saved-put f s.requires s.args.out.now (room))

listed-is : (c : goal.After-length) → c.list_dropped.new.list ≡ dropped_pairs c.args.file.now ++ drop (length (dropped_pairs c.args.file.now)) c.args.dropped.now
listed-is c =
    let head-is : c.header-head.result.0 ≡ field c.args.file.now 0 32 =
    c.header-head.ensures in
    let count-is : c.cells-count.result ≡ file_cells c.args.file.now =
    c.cells-count.ensures ∙ ap head_cells (head-is) ∙ head-cells c.args.file.now in
    let f = c.args.file.now in
    let n = c.cells-count.result in
    let all = map why_number c.keep_cells-k.new.whys in
    let lent : length c.keep_cells-k.new.whys ≡ 4096 = search rules in
    let within : n ≤ length c.keep_cells-k.new.whys = omega (arith, lent, count-is, c.requires.cells) in
    let long : length (take n c.keep_cells-k.new.whys) ≡ n = length-take-le _ _ within in
    let told : (i : ℕ) → i < n → get_or (take n all) i 0 ≡ why f i = λ i l. get_or-take n all i 0 l ∙ c.keep_cells-k.ensures.whys i (rw count-is at l) in
    let e : pairs_in (map why_number (take n c.keep_cells-k.new.whys)) (length (take n c.keep_cells-k.new.whys)) ≡ dropped_pairs f = rw (long, ← take-map) (pairs-file f (take n all) n told ∙ rw count-is (unfold dropped_pairs in refl)) in
    c.list_dropped.ensures ∙ rw e

pub overflow_cast-k : goal.overflow_cast-k
overflow_cast-k c =
    let few : c.keep_cells-k.result ≤ 4096 =
    omega (arith, c.keep_cells-k.ensures.number, kept-few c.args.file.now, c.requires.cells) in
    omega (arith, few)

pub corrected-new_head-requires : goal.corrected-new_head-requires
corrected-new_head-requires c =
    let few : c.keep_cells-k.result ≤ 4096 =
    omega (arith, c.keep_cells-k.ensures.number, kept-few c.args.file.now, c.requires.cells) in
    few

pub returns-then-list_short : goal.returns-then-list_short
unfolding saved_head
returns-then-list_short c =
    let head-is : c.header-head.result.0 ≡ field c.args.file.now 0 32 =
    c.header-head.ensures in
    let count-is : c.cells-count.result ≡ file_cells c.args.file.now =
    c.cells-count.ensures ∙ ap head_cells (head-is) ∙ head-cells c.args.file.now in
    let saved-is : c.corrected-new_head.result.0 ≡ saved_head c.args.file.now =
    let f = c.args.file.now in
    c.corrected-new_head.ensures ∙ rw (head-is, head-dim f, head-vertices f, c.keep_cells-k.ensures.number) in
    let length-is : c.length-length.result ≡ saved_length c.args.file.now =
    c.length-length.ensures ∙ ap head_length (saved-is) ∙ saved-head-length c.args.file.now c.requires in
    let room : saved_length c.args.file.now ≤ length c.args.out.now =
    omega (arith, length-is) in
    let s = c in
    let a = s.args in
    let e : ltb (length a.dropped.now) (2 * file_cells a.file.now) ≡ true = ap (λ (n : ℕ). ltb (length a.dropped.now) (2 * n)) (sym (count-is)) ∙ lt-ltb _ _ c.if-list_short.true in let all = refused a.file.now a.out.now a.dropped.now (Err ListLength) 21 refl refl (λ z. omega arith)
    (past_head a.file.now a.out.now a.dropped.now s.requires ∙ rw (le-ltb (length a.out.now) (saved_length a.file.now) (room), e)) in record { number = all.0; given = all.1.0; bytes = all.1.1.0; list = all.1.1.1 }

pub slice_bounds-vertices-end : goal.slice_bounds-vertices-end
slice_bounds-vertices-end c =
    let few : c.keep_cells-k.result ≤ 4096 =
    omega (arith, c.keep_cells-k.ensures.number, kept-few c.args.file.now, c.requires.cells) in
    let head-is : c.header-head.result.0 ≡ field c.args.file.now 0 32 =
    c.header-head.ensures in
    let corners-are : c.corners-n.result ≡ file_dim c.args.file.now + 1 =
    c.corners-n.ensures.corners ∙ ap (λ (h : ℕ). head_dim h + 1) (head-is) ∙ ap (λ (d : ℕ). d + 1) (head-dim c.args.file.now) in
    let within : c.corners-n.result * c.keep_cells-k.result ≤ 16384 =
    omega (arith, mul-le-mul {n₁ = c.corners-n.result} {m₁ = c.keep_cells-k.result} {n₂ = 4} {m₂ = 4096} (omega (arith, corners-are, dim-below c.args.file.now)) (few)) in
    let long : length c.keep_cells-k.new.vertices ≡ 16384 = search rules in
    omega (arith, within, long)

pub slice_bounds-write-end : goal.slice_bounds-write-end
slice_bounds-write-end c =
    let few : c.keep_cells-k.result ≤ 4096 =
    omega (arith, c.keep_cells-k.ensures.number, kept-few c.args.file.now, c.requires.cells) in
    let head-is : c.header-head.result.0 ≡ field c.args.file.now 0 32 =
    c.header-head.ensures in
    let corners-are : c.corners-n.result ≡ file_dim c.args.file.now + 1 =
    c.corners-n.ensures.corners ∙ ap (λ (h : ℕ). head_dim h + 1) (head-is) ∙ ap (λ (d : ℕ). d + 1) (head-dim c.args.file.now) in
    let within : c.corners-n.result * c.keep_cells-k.result ≤ 16384 =
    omega (arith, mul-le-mul {n₁ = c.corners-n.result} {m₁ = c.keep_cells-k.result} {n₂ = 4} {m₂ = 4096} (omega (arith, corners-are, dim-below c.args.file.now)) (few)) in
    let long : length c.keep_cells-k.new.vertices ≡ 16384 = search rules in
    sym (length-take-le _ _ (omega (arith, within, long)))

pub list_dropped-requires : goal.list_dropped-requires
list_dropped-requires c =
    let head-is : c.header-head.result.0 ≡ field c.args.file.now 0 32 =
    c.header-head.ensures in
    let count-is : c.cells-count.result ≡ file_cells c.args.file.now =
    c.cells-count.ensures ∙ ap head_cells (head-is) ∙ head-cells c.args.file.now in
    let places : 2 * file_cells c.args.file.now ≤ length c.args.dropped.now =
    ltb-false _ _ (ap (λ (n : ℕ). ltb (length c.args.dropped.now) (2 * n)) (sym (count-is)) ∙ le-ltb _ _ c.if-list_short.false) in
    let lent : length c.keep_cells-k.new.whys ≡ 4096 = search rules in
    let within : c.cells-count.result ≤ length c.keep_cells-k.new.whys = omega (arith, lent, count-is, c.requires.cells) in
    let long = length-take-le c.cells-count.result c.keep_cells-k.new.whys within in
    record { few = omega (arith, long, count-is, c.requires.cells); room = rw (long, count-is) places }

pub slice_bounds-whys-end : goal.slice_bounds-whys-end
slice_bounds-whys-end c =
    let head-is : c.header-head.result.0 ≡ field c.args.file.now 0 32 =
    c.header-head.ensures in
    let count-is : c.cells-count.result ≡ file_cells c.args.file.now =
    c.cells-count.ensures ∙ ap head_cells (head-is) ∙ head-cells c.args.file.now in
    let lent : length c.keep_cells-k.new.whys ≡ 4096 = search rules in
    omega (arith, lent, count-is, c.requires.cells)

pub slice_bounds-list_dropped-end : goal.slice_bounds-list_dropped-end
slice_bounds-list_dropped-end c =
    let head-is : c.header-head.result.0 ≡ field c.args.file.now 0 32 =
    c.header-head.ensures in
    let count-is : c.cells-count.result ≡ file_cells c.args.file.now =
    c.cells-count.ensures ∙ ap head_cells (head-is) ∙ head-cells c.args.file.now in
    let lent : length c.keep_cells-k.new.whys ≡ 4096 = search rules in
    sym (length-take-le _ _ (omega (arith, lent, count-is, c.requires.cells)))

pub overflow_sub-result : goal.overflow_sub-result
overflow_sub-result c =
    let head-is : c.header-head.result.0 ≡ field c.args.file.now 0 32 =
    c.header-head.ensures in
    let count-is : c.cells-count.result ≡ file_cells c.args.file.now =
    c.cells-count.ensures ∙ ap head_cells (head-is) ∙ head-cells c.args.file.now in
    omega (arith, c.keep_cells-k.ensures.number, count-is, kept-few c.args.file.now)

pub returns : goal.returns
unfolding saved_given spare_was length_was saved_head
returns c =
    let head-is : c.header-head.result.0 ≡ field c.args.file.now 0 32 =
    c.header-head.ensures in
    let count-is : c.cells-count.result ≡ file_cells c.args.file.now =
    c.cells-count.ensures ∙ ap head_cells (head-is) ∙ head-cells c.args.file.now in
    let saved-is : c.corrected-new_head.result.0 ≡ saved_head c.args.file.now =
    let f = c.args.file.now in
    c.corrected-new_head.ensures ∙ rw (head-is, head-dim f, head-vertices f, c.keep_cells-k.ensures.number) in
    let length-is : c.length-length.result ≡ saved_length c.args.file.now =
    c.length-length.ensures ∙ ap head_length (saved-is) ∙ saved-head-length c.args.file.now c.requires in
    let room : saved_length c.args.file.now ≤ length c.args.out.now =
    omega (arith, length-is) in
    let places : 2 * file_cells c.args.file.now ≤ length c.args.dropped.now =
    ltb-false _ _ (ap (λ (n : ℕ). ltb (length c.args.dropped.now) (2 * n)) (sym (count-is)) ∙ le-ltb _ _ c.if-list_short.false) in
    let s = c in
    let a = s.args in
    let f = a.file.now in
    let n : c.cells-count.result - c.keep_cells-k.result ≡ dropped_count f = omega (arith, count-is, c.keep_cells-k.ensures.number, all-accounted f) in let all = accepted f a.out.now a.dropped.now s.requires (room) (places) _ _ _
    (rw (length-is, n, spare-is c, c.pad_set.ensures, asked_is c))
    (written_is c) (listed-is c) in record { number = all.0; given = all.1.0; bytes = all.1.1.0; list = all.1.1.1 }
