-- On a kept book each call's number is planned from the length, the mesh and the set held: the frame and the rows are right, and what would be written is the true book.
use mathlib.Core.Path.{◌≡◌, refl, sym, ap, ◌∙◌}
use mathlib.Core.Bool.{Bool, true, false, cond, not, ◌&&◌, ◌||◌}
use mathlib.Core.List.{List, [], ◌∷◌}
use Prim.Native.Nat.{ℕ, ◌+◌, ◌*◌, ◌^◌, ◌≤◌, ◌<◌}
use native.Mathlib.Omega.{arith}
use lib.ListN.{length, get_or, take}
use lib.Dec.{eqb, ltb, leb}
use lib.IntN.{ℤ}
use lib.Ieee.{Float}
use lib.Ieee.Scale.{finite}
use borrow.Author.Tests.{ltb-false, leb-false, le-leb, eqb-true}
use Rattle.rules.specs.Lists.{all_of, filled}
use Rattle.rules.specs.Book.{count, key, named, held, offset, total, needs, frame_right, rows_right}
use Rattle.rules.specs.Calls.{first_broken, added, asked, make_rules, make_number, ask_rules, ask_number, ask_words, row_rules, row_number, find_number, write_rules, write_number, euler_rules, euler_number, held_rules, held_number, drop_rules, drop_number}
use Rattle.rules.specs.Phases.{counted}
use Rattle.rules.specs.Closures.{lengths_right, close_rules, close_number}
use Rattle.rules.specs.Boxes.{coordinate_rules, box_rules, box_number, whole_rules, whole_number}
use Rattle.rules.specs.Truth.{Mesh, number, true_book}
use Rattle.rules.specs.Plain.{plain_rules, plain_number}
use Rattle.rules.specs.Steps.{mask_with}
use Rattle.rules.proofs.Tests.{and-off}
use Rattle.rules.proofs.Masks.{masks-equal}
use Rattle.rules.proofs.Bits.{write-length}
use Rattle.rules.proofs.Accepted.{ask-is, rowed, find-is}
use Rattle.rules.proofs.LoadedWords.{get_or-filled}
use Rattle.rules.proofs.FrameRule.{framed}
use Rattle.rules.proofs.RowRule.{offset-rises, offset-total}
use Rattle.rules.proofs.Needs.{key-div}
use Rattle.rules.proofs.Asked.{asked_is}
use Rattle.rules.proofs.AskedMask.{key-mask}
use Rattle.rules.proofs.TrueRows.{number-low, number-top}
use Rattle.rules.proofs.TrueBook.{book-mask, book-dim, true-take, count-first}
use Rattle.rules.proofs.TrueMake.{true-added}
use Rattle.rules.proofs.TrueAsk.{true-asked}
use Rattle.rules.proofs.TrueFound.{none-differs}
use Rattle.promises.specs.Plan.{words_for, make_plan, ask_plan, mask_after, drop_plan, row_plan, find_plan, write_plan, euler_plan, close_plan, coordinate_plan, box_plan, whole_plan, plain_plan}
use Rattle.promises.specs.Demand.{Holds, Planned}
use Rattle.promises.proofs.Kept.{Kept, kept-held, kept-dim, kept-mask, kept-right, kept-alike, reached-kept}
use Rattle.promises.proofs.DemandThree.{first_count, second-count}
use Rattle.promises.proofs.Euler.{vertices-true, mesh-true}
use Rattle.promises.proofs.SheetPlanned.{sheet-planned}

-- ---- a kept book
module _ (m : Mesh) (ws : List ℕ) (k : Kept m ws) where
  frame : frame_right ws ≡ true
  frame = (kept-right m ws k).frame

  rows : rows_right ws ≡ true
  rows = (kept-right m ws k).rows

  all_held : (ks : List ℕ) → all_of (held ws) ks ≡ all_of (named k.mask) ks
  unfolding all_of
  all_held [] = refl
  all_held (j ∷ js) = rw (kept-held m ws k j, all_held js)

  -- Make
  made-words : (d e : ℕ) → d ≤ m.dims → e ≤ m.dims → named k.mask (key d e) ≡ false → all_of (named k.mask) (needs m.dims d e) ≡ true
      → length (added ws d e) ≡ words_for m (k.mask + 2 ^ key d e)
  unfolding words_for
  made-words d e a b o n =
      ap (λ (w : List ℕ). length (added w d e)) k.words
      ∙ ap length (true-added m k.formed k.mask k.proper d e a b o n (length ws))

  pub make-planned : (d e : ℕ) → make_number ws d e ≡ make_plan (length ws) m k.mask d e
  unfolding make_number make_rules make_plan first_broken
  make-planned d e =
      rw (frame, rows, kept-dim m ws k, kept-held m ws k (key d e), all_held (needs m.dims d e), kept-alike m ws k d, and-off (eqb e 0))
      (go (ltb m.dims d) refl (ltb m.dims e) refl (named k.mask (key d e)) refl (all_of (named k.mask) (needs m.dims d e)) refl)
    where
      go : (x : Bool) → ltb m.dims d ≡ x → (y : Bool) → ltb m.dims e ≡ y → (o : Bool) → named k.mask (key d e) ≡ o → (n : Bool) → all_of (named k.mask) (needs m.dims d e) ≡ n
          → ◌≡◌ {A = ℕ} (cond (x || y) 12 (cond o 14 (cond (not n) 15 (cond (ltb (length ws) (length (added ws d e))) 13 0))))
          (cond (x || y) 12 (cond o 14 (cond (not n) 15 (cond (ltb (length ws) (words_for m (k.mask + 2 ^ key d e))) 13 0))))
      go true p y q o r n s = refl
      go false p true q o r n s = refl
      go false p false q true r n s = refl
      go false p false q false r false s = refl
      go false p false q false r true s = rw (made-words d e (ltb-false _ _ p) (ltb-false _ _ q) r s)

  -- Ask
  asked-mask : (d e : ℕ) → get_or (asked ws d e) 1 0 ≡ mask_with 6 m.dims k.mask (key d e)
  asked-mask d e =
      let u : take (get_or ws 4 0) ws ≡ true_book 0 m k.mask = ap (λ (w : List ℕ). take (get_or w 4 0) w) k.words ∙ true-take m k.mask (length ws) in
      ap (λ (v : List ℕ). get_or v 1 0) (asked_is ws d e)
      ∙ (key-mask 6 (take (get_or ws 4 0) ws) (key d e)).mask_is
      ∙ rw (u, book-dim m k.formed k.mask 0, book-mask m k.mask 0)

  pub asked-book : (d e : ℕ) → d ≤ m.dims → e ≤ m.dims → asked ws d e ≡ true_book 0 m (mask_with 6 m.dims k.mask (key d e))
  asked-book d e a b =
      let t = true-asked m k.formed (length ws) k.mask d e k.proper a b in
      let w : asked ws d e ≡ true_book 0 m t.mask = ap (λ (w : List ℕ). asked w d e) k.words ∙ t.words in
      let q : t.mask ≡ mask_with 6 m.dims k.mask (key d e)
      = sym (book-mask m t.mask 0) ∙ ap (λ (v : List ℕ). get_or v 1 0) (sym w) ∙ asked-mask d e in
      w ∙ ap (true_book 0 m) q

  asked-words : (d e : ℕ) → d ≤ m.dims → e ≤ m.dims → length (asked ws d e) ≡ words_for m (mask_with 6 m.dims k.mask (key d e))
  unfolding words_for
  asked-words d e a b = ap length (asked-book d e a b)

  pub ask-planned : (d e : ℕ) → ask_number ws d e ≡ ask_plan (length ws) m k.mask d e
  unfolding ask_number ask_rules ask_plan first_broken
  ask-planned d e =
      rw (frame, rows, kept-dim m ws k, none-differs ws (kept-alike m ws k) d e) (go (ltb m.dims d) refl (ltb m.dims e) refl)
    where
      go : (x : Bool) → ltb m.dims d ≡ x → (y : Bool) → ltb m.dims e ≡ y
          → ◌≡◌ {A = ℕ} (cond (x || y) 12 (cond (ltb (length ws) (length (asked ws d e))) 13 0))
          (cond (x || y) 12 (cond (ltb (length ws) (words_for m (mask_with 6 m.dims k.mask (key d e)))) 13 0))
      go true p y q = refl
      go false p true q = refl
      go false p false q = rw (asked-words d e (ltb-false _ _ p) (ltb-false _ _ q))

  pub mask-after : (d e : ℕ) → get_or (ask_words ws d e) 1 0 ≡ mask_after (length ws) m k.mask d e
  unfolding mask_after
  mask-after d e =
      rw (ask-is ws d e, ← ask-planned d e) (go (eqb (ask_number ws d e) 0))
    where
      go : (b : Bool) → get_or (cond b (filled (length ws) (asked ws d e)) ws) 1 0 ≡ cond b (mask_with 6 m.dims k.mask (key d e)) k.mask
      go true = get_or-filled (length ws) (asked ws d e) 1 ∙ asked-mask d e
      go false = kept-mask m ws k

  -- Drop
  pub drop-planned : (d e : ℕ) → drop_number ws d e ≡ drop_plan m k.mask d e
  unfolding drop_number drop_rules drop_plan first_broken
  drop-planned d e = rw (frame, rows, kept-dim m ws k, kept-held m ws k (key d e))

  -- Row
  pub row-planned : (d e i : ℕ) → row_number ws d e i ≡ row_plan m k.mask d e i
  unfolding row_number row_rules row_plan first_broken
  row-planned d e i =
      rw (frame, kept-dim m ws k, kept-held m ws k (key d e)) (go (ltb m.dims d) refl (ltb m.dims e) refl (named k.mask (key d e)) refl)
    where
      counted : e ≤ m.dims → named k.mask (key d e) ≡ true → count ws d ≡ number m d
      counted b h = ap (λ (w : List ℕ). count w d) k.words ∙ count-first m k.formed k.mask k.proper d e (omega (arith, k.formed.high)) h (length ws)

      -- its own two offsets never break the rule
      rise : e ≤ m.dims → named k.mask (key d e) ≡ true → i < count ws d
          → (leb (offset ws (key d e) i) (offset ws (key d e) (i + 1)) && leb (offset ws (key d e) (i + 1)) (total ws (key d e))) ≡ true
      rise b h l =
          let f = framed ws frame in
          let g : held ws (key d e) ≡ true = kept-held m ws k (key d e) ∙ h in
          let p = key-div d e (omega (arith, k.formed.high)) in
          let x = offset-rises ws f rows (key d e) g i (i + 1) (omega arith) (rw p (omega arith)) in
          let y = offset-total ws f rows (key d e) g (i + 1) (rw p (omega arith)) in
          rw (le-leb (offset ws (key d e) i) (offset ws (key d e) (i + 1)) x) (le-leb (offset ws (key d e) (i + 1)) (total ws (key d e)) y)

      last : e ≤ m.dims → named k.mask (key d e) ≡ true → (z : Bool) → leb (count ws d) i ≡ z
          → ◌≡◌ {A = ℕ} (cond z 17 (cond (not (leb (offset ws (key d e) i) (offset ws (key d e) (i + 1)) && leb (offset ws (key d e) (i + 1)) (total ws (key d e)))) 11 0)) (cond z 17 0)
      last b h true s = refl
      last b h false s = rw (rise b h (leb-false (count ws d) i s))

      go : (x : Bool) → ltb m.dims d ≡ x → (y : Bool) → ltb m.dims e ≡ y → (o : Bool) → named k.mask (key d e) ≡ o
          → ◌≡◌ {A = ℕ} (cond (x || y) 12 (cond (not o) 16 (cond (leb (count ws d) i) 17 (cond (not (leb (offset ws (key d e) i) (offset ws (key d e) (i + 1)) && leb (offset ws (key d e) (i + 1)) (total ws (key d e)))) 11 0))))
          (cond (x || y) 12 (cond (not o) 16 (cond (leb (number m d) i) 17 0)))
      go true p y q o r = refl
      go false p true q o r = refl
      go false p false q false r = refl
      go false p false q true r = rw (← counted (ltb-false _ _ q) r) (last (ltb-false _ _ q) r (leb (count ws d) i) refl)

  -- Find
  second-counted : (d e i : ℕ) → row_number ws d e i ≡ 0 → count ws e ≡ number m e
  second-counted d e i z =
      let a = rowed ws d e i z in
      second-count m ws k d e (rw (kept-dim m ws k) at a.second) a.there

  pub find-planned : (d e i j : ℕ) → find_number ws d e i j ≡ find_plan m k.mask d e i j
  unfolding find_plan first_broken
  find-planned d e i j = find-is ws d e i j ∙ rw (← row-planned d e i) (agreed (eqb (row_number ws d e i) 0) refl)
    where
      agreed : (b : Bool) → eqb (row_number ws d e i) 0 ≡ b
          → ◌≡◌ {A = ℕ} (cond b (cond (leb (count ws e) j) 19 0) (row_number ws d e i)) (cond b (cond (leb (number m e) j) 19 0) (row_number ws d e i))
      agreed true q = rw (second-counted d e i (eqb-true _ _ q))
      agreed false q = refl

  -- Write, Euler, Held count
  pub write-planned : (bs : List ℕ) → write_number ws bs ≡ write_plan (length bs) m
  unfolding write_number write_rules write_plan first_broken
  write-planned bs =
      let c : count ws m.dims ≡ length m.cells
      = ap (λ (w : List ℕ). count w m.dims) k.words ∙ count-first m k.formed k.mask k.proper m.dims 0 (omega arith) k.proper.top (length ws) ∙ number-top m k.formed.low in
      rw (frame, rows, write-length ws, kept-dim m ws k, c)

  euler-planned : euler_number ws ≡ euler_plan m k.mask
  unfolding euler_number euler_rules euler_plan first_broken
  euler-planned = rw (frame, rows, kept-dim m ws k, kept-held m ws k (key 1 0), kept-held m ws k (key 2 0))

  held-planned : held_number ws ≡ 0
  unfolding held_number held_rules first_broken
  held-planned = rw frame

  -- phase closures
  close-planned : (counts : List ℤ) (closures steps bytes : ℕ) → close_number ws counts closures steps bytes ≡ close_plan m k.mask counts closures steps bytes
  unfolding close_number close_rules close_plan lengths_right first_broken
  close-planned counts closures steps bytes =
      rw (frame, rows, kept-dim m ws k, kept-held m ws k (key 1 0), kept-held m ws k (key 2 0)) (go (named k.mask (key 1 0)) refl (named k.mask (key 2 0)) refl)
    where
      sized : (n₀ n₁ n₂ : ℕ) → ℕ
      sized n₀ n₁ n₂ = cond (not (eqb (length counts) n₀ && (eqb closures n₂ && (eqb steps n₁ && eqb bytes n₁)))) 21 (cond (not (all_of counted counts)) 22 0)

      same : named k.mask (key 1 0) ≡ true → named k.mask (key 2 0) ≡ true → sized (count ws 0) (count ws 1) (count ws 2) ≡ sized (number m 0) (number m 1) (number m 2)
      same p q =
          let h = kept-held m ws k (key 1 0) ∙ p in
          let g = kept-held m ws k (key 2 0) ∙ q in
          rw (second-count m ws k 1 0 (omega arith) h, first_count m ws k 1 0 (omega arith) h, first_count m ws k 2 0 (omega arith) g)

      go : (x : Bool) → named k.mask (key 1 0) ≡ x → (y : Bool) → named k.mask (key 2 0) ≡ y
          → ◌≡◌ {A = ℕ} (cond (eqb m.dims 1) 12 (cond (not (x && y)) 15 (sized (count ws 0) (count ws 1) (count ws 2))))
          (cond (eqb m.dims 1) 12 (cond (not (x && y)) 15 (sized (number m 0) (number m 1) (number m 2))))
      go true p true q = rw (same p q)
      go true p false q = refl
      go false p y q = refl

  -- boxes
  vertices : count ws 0 ≡ number m 0
  vertices = vertices-true m ws k ∙ sym (number-low m)

  box-planned : (coordinates : List Float) (axes d i : ℕ) → box_number ws coordinates axes d i ≡ box_plan m k.mask coordinates axes d i
  unfolding box_number box_rules box_plan coordinate_rules coordinate_plan first_broken
  box-planned coordinates axes d i = rw (frame, rows, kept-dim m ws k, kept-held m ws k (key d 0), vertices) (go (ltb 0 d) refl (named k.mask (key d 0)) refl)
    where
      lent : ℕ
      lent = cond (not (eqb axes 2 || eqb axes 3)) 26 (cond (not (eqb (length coordinates) (axes * number m 0))) 21 (cond (not (all_of finite coordinates)) 27 0))

      go : (x : Bool) → ltb 0 d ≡ x → (o : Bool) → named k.mask (key d 0) ≡ o
          → ◌≡◌ {A = ℕ} (cond (ltb m.dims d) 12 (cond (x && not o) 15 (cond (leb (count ws d) i) 17 lent)))
          (cond (ltb m.dims d) 12 (cond (x && not o) 15 (cond (leb (number m d) i) 17 lent)))
      go true p true q = rw (first_count m ws k d 0 (omega arith) (kept-held m ws k (key d 0) ∙ q))
      go true p false q = refl
      go false p o q = let e : d ≡ 0 = omega (arith, ltb-false 0 d p) in rw (e, vertices)

  whole-planned : (coordinates : List Float) (axes : ℕ) → whole_number ws coordinates axes ≡ whole_plan m coordinates axes
  unfolding whole_number whole_rules whole_plan coordinate_rules coordinate_plan first_broken
  whole-planned coordinates axes = rw (frame, rows, vertices)

  -- a plain engine
  pub plain-planned : (d e i j : ℕ) → plain_number ws d e i j ≡ plain_plan m d e i j
  unfolding plain_number plain_rules plain_plan first_broken
  plain-planned d e i j = rw (frame, rows, kept-dim m ws k, mesh-true m ws k)

  pub same-mask : (mask : ℕ) → Holds ws mask → mask ≡ k.mask
  same-mask mask h = masks-equal 16 mask k.mask h.small k.proper.small (λ j l. h.names j l ∙ kept-held m ws k j)

pub planned : Planned
planned m ws r mask h d e i j bs counts closures steps bytes coordinates axes acrosses rim vertices edges =
    let k = reached-kept m ws r in
    rw (same-mask m ws k mask h)
    (make-planned m ws k d e, ask-planned m ws k d e, drop-planned m ws k d e, row-planned m ws k d e i, find-planned m ws k d e i j, write-planned m ws k bs, euler-planned m ws k, held-planned m ws k, close-planned m ws k counts closures steps bytes, box-planned m ws k coordinates axes d i, whole-planned m ws k coordinates axes, sheet-planned m ws r acrosses rim vertices edges, plain-planned m ws k d e i j)
